-- A chunk in which nothing is live may be removed.
use Rattle.std.specs.Prelude.{◌≡◌, ◌≢◌, ◌⊎◌, ℕ, ◌==◌, ◌&&◌, ◌||◌, ◌≤◌, nat_lt, not, Bool, true, false, List, [], ◌∷◌, map, refl}
use Rattle.std.proofs.Common.{sym, ◌∙◌, ap, subst, inl, inr, arith, true≢false}
use Rattle.std.specs.List.{list_any}
use Rattle.std.proofs.lemmas.Bool.{cases_lt, ltb-true, lt-ltb, eqb-true, eq-eqb, and_parts, and_from, or_left, or_right, or_parts}
use Rattle.hr_base.specs.declared.name.ChunkName.{ChunkName}
use Rattle.hr_base.specs.declared.name.Class.{Class}
use Rattle.hr_base.specs.declared.name.Class.TheVariants.{Value as Values, Tomb as Tombs, Clear as Clears}
use Rattle.hr_base.specs.Entries.{Key, key_at, is_key}
use Rattle.hr_base.proofs.EntryLaws.{is_key-true}
use Rattle.hr_base.proofs.NameTestLaws.{same_name_or_not}
use Rattle.record_format.specs.declared.record.Record.{Record}
use Rattle.record_format.specs.declared.record.Record.TheVariants.{Value, Tomb, Clear}
use Rattle.record_format.specs.Spelling.{seq_of, class_of_record}
use Rattle.gc_event.specs.Notes.{IsOneOf, Identity, identity_of, concerns, speaks_of, Note, Own, id_of, number_of, IsTop, Occurrence, occurrence, NoSmallerValue}
use Rattle.gc_law.specs.Events.{NotedEvent, notes}
use Rattle.gc_law.specs.CollectorFacts.{Gathered, KeepsBy}
use Rattle.gc_law.specs.Steps.{IsSpare}
use Rattle.gc_event.specs.Books.{Entry, Book}
use Rattle.gc_event.specs.Live.{is_value, is_clear, is_value_class, is_clear_class, is_greatest, is_newest, has_older, has_older_under, is_needed, is_live}
use Rattle.gc_law.specs.Ties.{Ties}
use Rattle.gc_event.proofs.NoteLaws.{top_is}
use Rattle.gc_law.proofs.EventLaws.{both}

-- ---- tests over a list

pub any_here : {A : Type 0} (test : A → Bool) (xs : List A) (x : A) → IsOneOf x xs → test x ≡ true → list_any test xs ≡ true
any_here test [] x h t = absurd h
any_here test (y ∷ xs) x h t = elim h [ inl e ↦ or_left (test y) (list_any test xs) (ap test (sym e) ∙ t) | inr more ↦ or_right (test y) (list_any test xs) (any_here test xs x more t) ]

none_here : {A : Type 0} (test : A → Bool) (xs : List A) (x : A) → list_any test xs ≡ false → IsOneOf x xs → test x ≡ false
none_here test [] x h i = absurd i
none_here test (y ∷ xs) x h i =
    let parts = or_parts (test y) (list_any test xs) h in
    elim i [ inl e ↦ ap test e ∙ parts.0 | inr more ↦ none_here test xs x parts.1 more ]

no_any_by : (b more : Bool) → (b ≡ true → ⊥) → not more ≡ true → not (b || more) ≡ true
no_any_by true more h k = absurd (h refl)
no_any_by false more h k = k

no_any : {A : Type 0} (test : A → Bool) (xs : List A) → ((x : A) → IsOneOf x xs → test x ≡ true → ⊥) → not (list_any test xs) ≡ true
no_any test [] h = refl
no_any test (x ∷ xs) h = no_any_by (test x) (list_any test xs) (h x (inl refl)) (no_any test xs (λ y i. h y (inr i)))

-- ---- classes of records

speaks_key : (class : Class) (own k : Key) → (class ≡ Clears → ⊥) → speaks_of class own k ≡ true → k ≡ own
speaks_key Values own k apart t = is_key-true k own t
speaks_key Tombs own k apart t = is_key-true k own t
speaks_key Clears own k apart t = absurd (apart refl)

value_is : (class : Class) → class ≡ Values → is_value_class class ≡ true
value_is Values e = refl
value_is Tombs e = cc
value_is Clears e = cc

clear_is : (class : Class) → is_clear_class class ≡ true → class ≡ Clears
clear_is Values e = absurd (true≢false (sym e))
clear_is Tombs e = absurd (true≢false (sym e))
clear_is Clears e = refl

concerns_value : (id : Identity) (k : Key) → id.class ≡ Values → concerns id k ≡ true → is_key k id.key ≡ true
concerns_value id k e t = subst (λ (c : Class). speaks_of c id.key k ≡ true) e t

concerns_clear : (id : Identity) (k : Key) → id.class ≡ Clears → (id.key.prefix ≡ k.prefix) → concerns id k ≡ true
concerns_clear id k e same = subst (λ (c : Class). speaks_of c id.key k ≡ true) (sym e) (eq-eqb id.key.prefix k.prefix same)

pub in_map_back : (es : List Entry) (o : Occurrence) → IsOneOf o (map (λ e. occurrence e.id e.chunk) es) → (e : Entry) × IsOneOf e es × (o ≡ occurrence e.id e.chunk)
in_map_back [] o h = absurd h
in_map_back (e ∷ es) o h = elim h [
  | inl same ↦ (e, inl refl, same)
  | inr more ↦
      let w = in_map_back es o more in
      (w.0, inr w.1, w.2)
]

module _ (p : ℕ) (heard : List NotedEvent) (c : Gathered) (b : Book) (ties : Ties p heard c b) where
  -- no event that touches a key of the top is above it
  under : (k : Key) (r : Record) (chunk : ChunkName) → IsTop (notes heard) k (Own r chunk) → (n : Note) → IsOneOf n b.told → concerns (id_of n) k ≡ true → number_of n ≤ seq_of r
  under k r chunk t n i concerned = t.greatest n (subst (λ (ns : List Note). IsOneOf n ns) ties.told i) concerned

  greatest_of : (k : Key) (r : Record) (chunk : ChunkName) → IsTop (notes heard) k (Own r chunk) → is_greatest b.told k (seq_of r) ≡ true
  greatest_of k r chunk t =
      no_any _ b.told (λ n i test.
      let parts = and_parts (concerns (id_of n) k) (nat_lt (seq_of r) (number_of n)) test in
      absurd (omega (arith, under k r chunk t n i parts.0, ltb-true (seq_of r) (number_of n) parts.1)))

  newest_of : (k : Key) (r : Record) (chunk : ChunkName) → IsTop (notes heard) k (Own r chunk) → is_newest b.told k.prefix (seq_of r) ≡ true
  newest_of k r chunk t =
      no_any _ b.told (λ n i test.
      let parts = and_parts (is_clear (id_of n) && ((id_of n).key.prefix == k.prefix)) (nat_lt (seq_of r) (number_of n)) test in
      let more = and_parts (is_clear (id_of n)) ((id_of n).key.prefix == k.prefix) parts.0 in
      absurd (omega (
        arith,
        under k r chunk t n i (concerns_clear (id_of n) k (clear_is (id_of n).class more.0) (eqb-true (id_of n).key.prefix k.prefix more.1)),
        ltb-true (seq_of r) (number_of n) parts.1,
      )))

  -- where no older value is found, none is present
  none_older : (k : Key) (n : ℕ) → has_older b.present k n ≡ false → NoSmallerValue c.present k n
  none_older k n h o i value concerned =
      let w = in_map_back b.present o (subst (λ (os : List Occurrence). IsOneOf o os) ties.present i) in
      let is : o.id ≡ w.0.id = ap (λ (x : Occurrence). x.id) w.2 in
      elim (cases_lt o.id.seq n) [
        | inl less ↦ both _ (and_from (is_value w.0.id && is_key k w.0.id.key) (nat_lt w.0.id.seq n)
            (and_from (is_value w.0.id) (is_key k w.0.id.key)
            (ap (λ (id : Identity). is_value_class id.class) (sym is) ∙ value_is o.id.class value)
            (ap (λ (id : Identity). is_key k id.key) (sym is) ∙ concerns_value o.id k value concerned))
            (ap (λ (id : Identity). nat_lt id.seq n) (sym is) ∙ lt-ltb o.id.seq n less))
            (none_here (λ e. is_value e.id && is_key k e.id.key && nat_lt e.id.seq n) b.present w.0 h w.1)
        | inr from ↦ from
      ]

  none_older_under : (k : Key) (n : ℕ) → has_older_under b.present k.prefix n ≡ false → NoSmallerValue c.present k n
  none_older_under k n h o i value concerned =
      let w = in_map_back b.present o (subst (λ (os : List Occurrence). IsOneOf o os) ties.present i) in
      let is : o.id ≡ w.0.id = ap (λ (x : Occurrence). x.id) w.2 in
      let same : k ≡ o.id.key = is_key-true k o.id.key (concerns_value o.id k value concerned) in
      elim (cases_lt o.id.seq n) [
        | inl less ↦ both _ (and_from (is_value w.0.id && (w.0.id.key.prefix == k.prefix)) (nat_lt w.0.id.seq n)
            (and_from (is_value w.0.id) (w.0.id.key.prefix == k.prefix)
            (ap (λ (id : Identity). is_value_class id.class) (sym is) ∙ value_is o.id.class value)
            (eq-eqb w.0.id.key.prefix k.prefix (ap (λ (id : Identity). id.key.prefix) (sym is) ∙ ap (λ (q : Key). q.prefix) (sym same))))
            (ap (λ (id : Identity). nat_lt id.seq n) (sym is) ∙ lt-ltb o.id.seq n less))
            (none_here (λ e. is_value e.id && (e.id.key.prefix == k.prefix) && nat_lt e.id.seq n) b.present w.0 h w.1)
        | inr from ↦ from
      ]

  right_false : (x y : Bool) → x ≡ true → (x && y) ≡ false → y ≡ false
  right_false true y t f = f
  right_false false y t f = both false t refl

  -- a top that stands in its place and is not live is a tombstone that nothing needs
  pub not_needed : (k : Key) (r : Record) (chunk : ChunkName) → IsTop (notes heard) k (Own r chunk) → is_needed (class_of_record r) b (identity_of r) ≡ false
      → (class_of_record r ≢ Values) × NoSmallerValue c.present k (seq_of r)
  not_needed k (Value seq prefix key value) chunk t h =
      let own : k ≡ key_at prefix key = is_key-true k (key_at prefix key) t.touching in
      both _ (greatest_of k (Value seq prefix key value) chunk t) (subst (λ (q : Key). is_greatest b.told q seq.0 ≡ false) (sym own) h)
  not_needed k (Tomb seq prefix key) chunk t h =
      let own : k ≡ key_at prefix key = is_key-true k (key_at prefix key) t.touching in
      let here : (is_greatest b.told k seq.0 && has_older b.present k seq.0) ≡ false = subst (λ (q : Key). (is_greatest b.told q seq.0 && has_older b.present q seq.0) ≡ false) (sym own) h in
      (apart, none_older k seq.0 (right_false (is_greatest b.told k seq.0) (has_older b.present k seq.0) (greatest_of k (Tomb seq prefix key) chunk t) here))
    where
      apart : Tombs ≢ Values
      apart e = cc
  not_needed k (Clear prefix seq) chunk t h =
      let own : prefix ≡ k.prefix = eqb-true prefix k.prefix t.touching in
      let here : (is_newest b.told k.prefix seq.0 && has_older_under b.present k.prefix seq.0) ≡ false =
      subst (λ (q : ℕ). (is_newest b.told q seq.0 && has_older_under b.present q seq.0) ≡ false) own h in
      (apart, none_older_under k seq.0 (right_false (is_newest b.told k.prefix seq.0) (has_older_under b.present k.prefix seq.0) (newest_of k (Clear prefix seq) chunk t) here))
    where
      apart : Clears ≢ Values
      apart e = cc

  keeps_some : (class : Class) (kept bare : Type 0) → KeepsBy class kept bare → kept ⊎ ((class ≢ Values) × bare)
  keeps_some Values kept bare h = inl h
  keeps_some Tombs kept bare (inl a) = inl a
  keeps_some Tombs kept bare (inr x) = inr (apart, x) where
    apart : Tombs ≢ Values
    apart e = cc
  keeps_some Clears kept bare (inl a) = inl a
  keeps_some Clears kept bare (inr x) = inr (apart, x) where
    apart : Clears ≢ Values
    apart e = cc

  -- no top needs a chunk in which nothing is live
  pub dead_is_spare : (name : ChunkName) → ((e : Entry) → IsOneOf e b.present → e.chunk ≡ name → is_live b e ≡ false) → IsSpare p heard c name
  dead_is_spare name dead k r chunk e s =
      elim (keeps_some (class_of_record r) _ _ (ties.places k r chunk e)) [
        | inr bare ↦ inr (inr bare)
        | inl place ↦ elim place.kept [
          | inl own ↦ inl own.1
          | inr safe ↦ elim (same_name_or_not place.entry.chunk name) [
            | inr ne ↦ inr (inl (place.entry.chunk, safe.0, ne, safe.1))
            | inl same ↦ inr (inr (not_needed k r chunk (top_is (notes heard) k (Own r chunk) e)
                (subst (λ (id : Identity). is_needed id.class b id ≡ false) place.is
                (right_false place.entry.place (is_needed place.entry.id.class b place.entry.id) place.place (dead place.entry place.member same)))))
          ]
        ]
      ]
