-- What a restart notes is a list that a partition may note, and it tells the maps.
use Rattle.std.specs.Prelude.{◌≡◌, ◌≢◌, ℕ, ◌<◌, ◌≤◌, Bool, true, false, cond, if◌then◌else◌, List, [], ◌∷◌, ◌++◌, length, All, Option, Some, None, IsSome, refl}
use Rattle.std.proofs.Common.{sym, ◌∙◌, ap, subst, inl, inr, arith, true≢false}
use Rattle.std.specs.List.{AllByRecursion}
use Rattle.std.specs.FinMap as finmap
use Rattle.std.specs.Option.{option_map}
use Rattle.std.proofs.lemmas.List.{append-nil}
use Rattle.std.proofs.lemmas.List.Elements.{All-nil, All-from_recursion, recursion_from_All}
use Rattle.hr_base.specs.declared.name.ChunkName.{ChunkName}
use Rattle.hr_base.specs.Entries.{Key, State}
use Rattle.hr_base.specs.NameTests.{is_name}
use Rattle.hr_base.proofs.NameTestLaws.{is_name-true}
use Rattle.hr_base.specs.Names.{class_of_kind}
use Rattle.dir_files.specs.Files.{FileState}
use Rattle.record_format.specs.declared.record.Record.{Record}
use Rattle.record_format.specs.Spelling.{seq_of}
use Rattle.record_format.specs.Splits.{Splits, IsOfClass}
use Rattle.record_format.proofs.SplitLaws.{one_split}
use Rattle.crash_law.specs.Commands.{command_of, state_of}
use Rattle.crash_law.specs.Accounts.{fresh_account}
use Rattle.crash_law.specs.Numbered.{IsIn, Rising, commands_of}
use Rattle.crash_law.specs.Placed.{Placed, records_of, in_chunk, IsPlaced, Base}
use Rattle.crash_law.specs.Restarts.{Fact, IsDeciding, RestartsTo}
use Rattle.crash_law.specs.Writers.{WriterStart, Written}
use Rattle.crash_law.proofs.NumberedLaws.{in_from_Contains, Contains-from_in}
use Rattle.gc_event.specs.Notes.{IsOneOf, Identity, identity_of, concerns, Note, Own, Dead, chunk_of, number_of, top, IsTop}
use Rattle.gc_law.specs.Events.{NotedEvent, notes, seal_of, sealed_image, placed_of, IsSealedFile, IsTelling}
use Rattle.gc_law.specs.WriterFacts.{IsStateBy, IsWritersAt, Tells, HasDoneNothing}
use Rattle.gc_law.specs.Restarting.{IsFoundFile, IsFoundNote, NotesFound, Opens}
use Rattle.gc_event.proofs.NoteLaws.{top_is, top_none}
use Rattle.gc_law.proofs.EventLaws.{none_some, touches_is}

module _ (p : ℕ) (es : List NotedEvent) (b : WriterStart) (base : Base p b.found b.maps b.first) (found : NotesFound p b.found es) where
  -- two notes with one number are of one record
  one_record : (m n : Note) → (i : IsOneOf m (notes es)) → (j : IsOneOf n (notes es)) → number_of m ≡ number_of n → (found.there m i).content ≡ (found.there n j).content
  one_record m n i j e =
      let x = found.there m i in
      let y = found.there n j in
      base.sound.agree x.content y.content x.fact y.fact (ap (λ (id : Identity). id.seq) x.is ∙ e ∙ sym (ap (λ (id : Identity). id.seq) y.is))

  file_by : (name : ChunkName) (was : Option (List ℕ)) (file : FileState) → b.found name ≡ was → option_map (λ bytes. record { bytes = bytes; front = length bytes; named = true }) was ≡ Some file
      → (bytes : List ℕ) × (b.found name ≡ Some bytes) × (file ≡ record { bytes = bytes; front = length bytes; named = true })
  file_by name None file e h = absurd (none_some file h)
  file_by name (Some bytes) file e h = (bytes, e, one_file file (record { bytes = bytes; front = length bytes; named = true }) h) where
    one_file : (x y : FileState) → Some y ≡ Some x → x ≡ y
    one_file x y u = cc

  sealed_file : (name : ChunkName) (file : FileState) → seal_of es name ≡ Some file → IsSealedFile p es name file
  sealed_file name file e =
      let of = found.others name file e in
      let f = file_by name (b.found name) file refl (sym (found.sealed name of) ∙ e) in
      let read = found.read name f.0 of f.1 in
      subst (IsSealedFile p es name) (sym f.2) (record {
        partition = of;
        durable = record { front = refl; named = refl };
        small = base.sound.small name f.0 of f.1;
        records = read.records;
        rest = read.rest;
        split = read.split;
        torn = base.sound.torn name f.0 read.records read.rest of f.1 read.split;
        noted = λ r i. found.noted r (fact_of name f.0 of f.1 read r i);
        all = λ n i c.
            let x = found.there n i in
            (x.content, in_file name f.0 f.1 read x.content x.fact (x.chunk ∙ c), x.is);
        content = λ r s chunk i j same.
            let y = found.there (Own s chunk) j in
            base.sound.agree r y.content (fact_of name f.0 of f.1 read r i) y.fact (sym same ∙ sym (ap (λ (id : Identity). id.seq) y.is)) ∙ y.own s chunk refl;
      })
    where
      fact_of : (n : ChunkName) (bytes : List ℕ) → n.partition.0 ≡ p → b.found n ≡ Some bytes → (read : IsFoundFile n bytes) → (r : Record) → IsIn r read.records → Fact b.found p r
      fact_of n bytes of there read r i = record { name = n; bytes = bytes; records = read.records; rest = read.rest; partition = of; there = there; whole = read.split; has = Contains-from_in r read.records i }

      one_some : (x y : List ℕ) → Some x ≡ Some y → x ≡ y
      one_some x y u = cc

      in_file : (n : ChunkName) (bytes : List ℕ) → b.found n ≡ Some bytes → (read : IsFoundFile n bytes) → (r : Record) (f : Fact b.found p r) → f.name ≡ n → IsIn r read.records
      in_file n bytes there read r f same =
          let is : f.bytes ≡ bytes = one_some f.bytes bytes (sym f.there ∙ (ap b.found same ∙ there)) in
          subst (λ (rs : List Record). IsIn r rs)
          (one_split (class_of_kind n.kind) bytes f.records read.records f.rest read.rest
          (subst (λ (x : ChunkName). Splits (class_of_kind x.kind) bytes f.records f.rest) same
          (subst (λ (x : List ℕ). Splits (class_of_kind f.name.kind) x f.records f.rest) is f.whole)) read.split).0
          (in_from_Contains r f.records f.has)

  -- a whole record in a Seal's file was found
  found_fact : (r : Record) → Fact (sealed_image es) p r → Fact b.found p r
  found_fact r f = record { name = f.name; bytes = f.bytes; records = f.records; rest = f.rest; partition = f.partition; there = back (b.found f.name) (ap (option_map (λ (x : FileState). x.bytes)) (sym (found.sealed f.name f.partition)) ∙ f.there); whole = f.whole; has = f.has } where
    back : (was : Option (List ℕ)) → option_map (λ (x : FileState). x.bytes) (option_map (λ bytes. record { bytes = bytes; front = length bytes; named = true }) was) ≡ Some f.bytes → was ≡ Some f.bytes
    back None e = absurd (none_some f.bytes e)
    back (Some bytes) e = e

  found_telling : IsTelling p es
  found_telling = record {
    rising = found.rising;
    one = λ m n i j e. sym (found.there m i).is ∙ (ap identity_of (one_record m n i j e) ∙ (found.there n j).is);
    content = λ r s c d i j e. sym ((found.there (Own r c) i).own r c refl) ∙ (one_record (Own r c) (Own s d) i j e ∙ (found.there (Own s d) j).own s d refl);
    last = found.last;
    sizes = found.sizes;
    seals = sealed_file;
    agree = λ r s f g e. base.sound.agree r s (found_fact r f) (found_fact s g) e;
  }

  -- ---- the tops

  -- the top of a key is its deciding record
  top_decides : (k : Key) (r : Record) (chunk : ChunkName) → IsTop (notes es) k (Own r chunk) → IsDeciding (Fact b.found p) k r
  top_decides k r chunk t =
      let x = found.there (Own r chunk) t.member in
      record {
        fact = subst (Fact b.found p) (x.own r chunk refl) x.fact;
        touching = touches_is r k ∙ t.touching;
        greatest = λ s f u.
            let n = found.noted s f in
            omega (arith, t.greatest n.note n.member (ap (λ (id : Identity). concerns id k) n.is ∙ (sym (touches_is s k) ∙ u)), ap (λ (id : Identity). id.seq) n.is);
      }

  one_state : (k : Key) (s : State) (r : Record) → IsDeciding (Fact b.found p) k r → RestartsTo (Fact b.found p) k s → s ≡ state_of (command_of r)
  one_state k s r d (inl w) =
      w.2 ∙ ap (λ (x : Record). state_of (command_of x)) (base.sound.agree w.0 r w.1.fact d.fact (omega (arith, w.1.greatest r d.fact d.touching, d.greatest w.0 w.1.fact w.1.touching)))
  one_state k s r d (inr w) = absurd (true≢false (sym d.touching ∙ w.0 r d.fact))

  -- a top that is dead has an own one of its number
  not_dead : (k : Key) (s : State) (id : Identity) (chunk : ChunkName) → IsTop (notes es) k (Dead id chunk) → RestartsTo (Fact b.found p) k s → ⊥
  not_dead k s id chunk t (inr w) =
      let x = found.there (Dead id chunk) t.member in
      true≢false (sym (touches_is x.content k ∙ (ap (λ (y : Identity). concerns y k) x.is ∙ t.touching)) ∙ w.0 x.content x.fact)
  not_dead k s id chunk t (inl w) =
      let own = found.deciding k w.0 w.1 in
      let x = found.there (Dead id chunk) t.member in
      let concerned : concerns (identity_of w.0) k ≡ true = sym (touches_is w.0 k) ∙ w.1.touching in
      let above : id.seq ≤ seq_of w.0 = omega (arith, w.1.greatest x.content x.fact (touches_is x.content k ∙ (ap (λ (y : Identity). concerns y k) x.is ∙ t.touching)), ap (λ (y : Identity). y.seq) x.is) in
      true≢false (sym (t.own (Own w.0 own.0) own.1 concerned (omega (arith, above, t.greatest (Own w.0 own.0) own.1 concerned)) refl))

  content_by : (k : Key) (n : Option Note) → top (notes es) k ≡ n → IsStateBy n (finmap.get b.maps k)
  content_by k None e = none_state (base.restart k) where
    none_state : RestartsTo (Fact b.found p) k (finmap.get b.maps k) → finmap.get b.maps k ≡ None
    none_state (inr w) = w.1
    none_state (inl w) =
        let n = found.noted w.0 w.1.fact in
        absurd (true≢false (sym (ap (λ (id : Identity). concerns id k) n.is ∙ (sym (touches_is w.0 k) ∙ w.1.touching)) ∙ top_none (notes es) k e n.note n.member))
  content_by k (Some (Dead id chunk)) e = not_dead k (finmap.get b.maps k) id chunk (top_is (notes es) k (Dead id chunk) e) (base.restart k)
  content_by k (Some (Own r chunk)) e = one_state k (finmap.get b.maps k) r (top_decides k r chunk (top_is (notes es) k (Own r chunk) e)) (base.restart k)

  -- ---- where they stand

  valid_in : (c : ChunkName) (rs : List Record) (r : Record) → AllByRecursion (IsOfClass (class_of_kind c.kind)) rs → IsIn r rs → IsOfClass (class_of_kind c.kind) r
  valid_in c [] r h i = absurd i
  valid_in c (x ∷ xs) r h i = elim i [ inl e ↦ subst (IsOfClass (class_of_kind c.kind)) (sym e) h.0 | inr more ↦ valid_in c xs r h.1 more ]

  placed_here : (r : Record) (chunk : ChunkName) → IsFoundNote p b.found (Own r chunk) → IsPlaced p (record { content = r; chunk = chunk })
  placed_here r chunk x =
      let f = x.fact in
      let valid : IsOfClass (class_of_kind f.name.kind) x.content = valid_in f.name f.records x.content (recursion_from_All (IsOfClass (class_of_kind f.name.kind)) f.records f.whole.each) (in_from_Contains x.content f.records f.has) in
      record {
        valid = subst (λ (c : ChunkName). IsOfClass (class_of_kind c.kind) r) x.chunk (subst (IsOfClass (class_of_kind f.name.kind)) (x.own r chunk refl) valid);
        partition = ap (λ (c : ChunkName). c.partition.0) (sym x.chunk) ∙ f.partition;
      }

  placed_all : (ns : List Note) → ((n : Note) → IsOneOf n ns → IsFoundNote p b.found n) → AllByRecursion (IsPlaced p) (placed_of ns)
  placed_all [] h = tt
  placed_all (Own content chunk ∷ ns) h = (placed_here content chunk (h (Own content chunk) (inl refl)), placed_all ns (λ n i. h n (inr i)))
  placed_all (Dead id chunk ∷ ns) h = placed_all ns (λ n i. h n (inr i))

  sealed_chunk : (n : Note) → IsOneOf n (notes es) → IsSome (seal_of es (chunk_of n))
  sealed_chunk n i =
      let x = found.there n i in
      let of : (chunk_of n).partition.0 ≡ p = ap (λ (c : ChunkName). c.partition.0) (sym x.chunk) ∙ x.fact.partition in
      subst IsSome (sym (found.sealed (chunk_of n) of ∙ ap (option_map (λ bytes. record { bytes = bytes; front = length bytes; named = true })) (ap b.found (sym x.chunk) ∙ x.fact.there))) refl

  pub found_opens : Opens p es b
  found_opens = record {
    telling = found_telling;
    content = λ k. content_by k (top (notes es) k) refl;
    below = λ n i.
        let x = found.there n i in
        omega (arith, base.below x.content x.fact, ap (λ (id : Identity). id.seq) x.is);
    sealed = sealed_chunk;
    placed = All-from_recursion (IsPlaced p) (placed_of (notes es)) (placed_all (notes es) found.there);
    found = λ name of. sym (ap (option_map (λ (f : FileState). f.bytes)) (found.sealed name of) ∙ twice (b.found name));
  } where
    twice : (was : Option (List ℕ)) → option_map (λ (f : FileState). f.bytes) (option_map (λ bytes. record { bytes = bytes; front = length bytes; named = true }) was) ≡ was
    twice None = refl
    twice (Some bytes) = refl

-- ---- a writer that has done nothing since

-- of a chunk without an event nothing stands in it
none_of_chunk : (ns : List Note) (name : ChunkName) → ((n : Note) → IsOneOf n ns → chunk_of n ≢ name) → in_chunk name (placed_of ns) ≡ []
none_of_chunk [] name h = refl
none_of_chunk (Own content chunk ∷ ns) name h = skip (is_name name chunk) refl ∙ none_of_chunk ns name (λ n i. h n (inr i)) where
  skip : (b : Bool) → is_name name chunk ≡ b → cond b (content ∷ in_chunk name (placed_of ns)) (in_chunk name (placed_of ns)) ≡ in_chunk name (placed_of ns)
  skip true e = absurd (h (Own content chunk) (inl refl) (sym (is_name-true name chunk e)))
  skip false e = refl
none_of_chunk (Dead id chunk ∷ ns) name h = none_of_chunk ns name (λ n i. h n (inr i))

pub opened_tells : (w : Written) (es : List NotedEvent) (b : WriterStart) → Opens w.partition es b → HasDoneNothing w b → Tells w es (fresh_account b.maps)
opened_tells w es b opens nothing = record {
  telling = opens.telling;
  own_maps = sym nothing.maps;
  durable = opens.content;
  kept = [];
  lost = [];
  records = nothing.records;
  one_lost = ap (λ (x : Bool). if x then 1 else 0) (sym nothing.lost);
  maps = refl;
  tail = ap (λ (xs : List Placed). commands_of (records_of xs)) (sym nothing.records);
  low = b.first;
  below = opens.below;
  since = subst (λ (xs : List Placed). Rising b.first (records_of xs)) (sym nothing.records) tt;
  from = omega (arith, nothing.next);
  below_next = subst (λ (xs : List Placed). All (λ r. seq_of r < w.next) (records_of xs)) (sym nothing.records) (All-nil (λ r. seq_of r < w.next));
  placed = subst (λ (xs : List Placed). All (IsPlaced w.partition) (placed_of (notes es) ++ xs)) (sym nothing.records)
      (subst (All (IsPlaced w.partition)) (sym (append-nil (placed_of (notes es)))) opens.placed);
  dead = λ id chunk i. opens.sealed (Dead id chunk) i;
  partition = λ name file e. absurd (none_some file (sym (nothing.files name) ∙ e));
  at = λ name of. subst (λ (xs : List Placed). IsWritersAt (seal_of es name) (w.files name) (in_chunk name (placed_of (notes es))) (in_chunk name xs) []) (sym nothing.records)
      (subst (λ (f : Option FileState). IsWritersAt (seal_of es name) f (in_chunk name (placed_of (notes es))) [] []) (sym (nothing.files name)) (by_seal name (seal_of es name) refl));
  none_gone = nothing.none_gone;
} where
  sealed_by : (s : Option FileState) → s ≡ None → IsSome s → ⊥
  sealed_by None e h = absurd (true≢false (sym h))
  sealed_by (Some f) e h = none_some f (sym e)

  by_seal : (name : ChunkName) (s : Option FileState) → seal_of es name ≡ s → IsWritersAt s None (in_chunk name (placed_of (notes es))) [] []
  by_seal name (Some f) e = (refl, refl)
  by_seal name None e = (none_of_chunk (notes es) name (λ n i same. sealed_by (seal_of es (chunk_of n)) (ap (seal_of es) same ∙ e) (opens.sealed n i)), refl)
