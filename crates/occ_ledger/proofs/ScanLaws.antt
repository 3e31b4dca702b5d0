-- The scans compute what the definitions of `gc_event` say of the lists.
use Rattle.std.specs.Prelude.{◌≡◌, ℕ, ◌+◌, ◌<◌, ◌≤◌, ◌==◌, ◌&&◌, ◌||◌, Bool, true, false, not, nat_lt, cond, List, [], ◌∷◌, ◌++◌, length, map, take, drop, filter, count_by, Option, Some, None, refl, if◌then◌else◌}
use Rattle.std.specs.List.{list_any, insert}
use Rattle.std.proofs.Common.{add-one, get_or, sym, ◌∙◌, ap, arith}
use Rattle.std.proofs.lemmas.Bool.{le-ltb, lt-ltb}
use Rattle.std.proofs.lemmas.List.{drop_all, drop_more}
use Rattle.std.proofs.lemmas.List.Sums.{sum_by-append}
use Rattle.hr_base.specs.declared.name.ChunkName.{ChunkName}
use Rattle.hr_base.specs.declared.name.Class.{Class}
use Rattle.hr_base.specs.declared.name.Class.TheVariants.{Value, Tomb, Clear}
use Rattle.hr_base.specs.Entries.{Key, is_key}
use Rattle.hr_base.specs.NameTests.{is_name}
use Rattle.record_format.specs.declared.record.Record.{Record}
use Rattle.record_format.specs.Spelling.{seq_of}
use Rattle.gc_event.specs.Books.{Book, Entry, forgotten_in}
use Rattle.gc_event.specs.Live.{by_number, has_older, has_older_under, is_clear, is_greatest, is_live, is_needed, is_newest, is_passed, is_passed_under, is_value, lapsed, live_among, live_records, lives, stale, stale_prefix, with_content}
use Rattle.gc_event.specs.Notes.{Identity, concerns, id_of}
use Rattle.occ_ledger.specs.declared.mark.Mark.{Mark}
use Rattle.occ_ledger.specs.declared.mark.Mark.TheVariants.{Own, Dead}
use Rattle.occ_ledger.specs.declared.lists.Notice.{Notice}
use Rattle.occ_ledger.specs.declared.lists.Spot.{Spot}
use Rattle.occ_ledger.specs.declared.lists.Lists.{Lists}
use Rattle.occ_ledger.specs.declared.seen.Seen.{Seen}
use Rattle.occ_ledger.specs.Marks.{content_in, identity_in, note_in}
use Rattle.occ_ledger.specs.Lists.{book_in, book_seen, entry_in, is_kept, told_in}
use Rattle.occ_ledger.specs.Scans.{scan_among, scan_chosen, scan_greater, scan_lapsed, scan_live, scan_lives, scan_needed, scan_newer, scan_older, scan_older_under, scan_passed, scan_passed_under, scan_stale, scan_stale_under, smaller}

-- ---- tests of more than one part

and3 : (a b c : Bool) → (a && (b && c)) ≡ (a && b && c)
and3 true b c = refl
and3 false b c = refl

and4 : (a b c d : Bool) → (a && (b && c && d)) ≡ (a && b && c && d)
and4 true b c d = refl
and4 false b c d = refl

-- ---- scans of lists that are seen through a function, and of which some elements are left out

module _ {A B : Type 0} (f : A → B) where
  pub any_map : (p : B → Bool) (q : A → Bool) → ((x : A) → p (f x) ≡ q x) → (xs : List A) → list_any p (map f xs) ≡ list_any q xs
  any_map p q each [] = refl
  any_map p q each (x ∷ xs) = ap (λ b. b || list_any p (map f xs)) (each x) ∙ ap (λ b. q x || b) (any_map p q each xs)

  module _ (k p : B → Bool) (q : A → Bool) (each : (x : A) → (k (f x) && p (f x)) ≡ q x) where
    -- what the test is of one that is left, and of one that is not
    here : (x : A) → k (f x) ≡ true → p (f x) ≡ q x
    here x e = ap (λ b. b && p (f x)) (sym e) ∙ each x

    gone : (x : A) → k (f x) ≡ false → false ≡ q x
    gone x e = ap (λ b. b && p (f x)) (sym e) ∙ each x

    any_by : (x : A) (xs : List A) (t : Bool) → k (f x) ≡ t → list_any p (filter k (map f xs)) ≡ list_any q xs
        → list_any p (cond t (f x ∷ filter k (map f xs)) (filter k (map f xs))) ≡ (q x || list_any q xs)
    any_by x xs true e rest = ap (λ b. b || list_any p (filter k (map f xs))) (here x e) ∙ ap (λ b. q x || b) rest
    any_by x xs false e rest = rest ∙ ap (λ b. b || list_any q xs) (gone x e)

    pub any_seen : (xs : List A) → list_any p (filter k (map f xs)) ≡ list_any q xs
    any_seen [] = refl
    any_seen (x ∷ xs) = any_by x xs (k (f x)) refl (any_seen xs)

    count_by_one : {C : Type 0} (r : C → Bool) (x : C) (xs : List C) → count_by r (x ∷ xs) ≡ cond (r x) 1 0 + count_by r xs
    count_by_one r x xs = let e = sum_by-append (λ y. cond (r y) 1 0) (x ∷ []) xs in omega (arith, e)

    count_case : (x : A) (xs : List A) (t : Bool) → k (f x) ≡ t → count_by p (filter k (map f xs)) ≡ count_by q xs
        → count_by p (cond t (f x ∷ filter k (map f xs)) (filter k (map f xs))) ≡ count_by q (x ∷ xs)
    count_case x xs true e rest =
        count_by_one p (f x) (filter k (map f xs)) ∙ ap (λ b. cond b 1 0 + count_by p (filter k (map f xs))) (here x e)
        ∙ ap (λ n. cond (q x) 1 0 + n) rest ∙ sym (count_by_one q x xs)
    count_case x xs false e rest =
        let one = count_by_one q x xs in
        let none = ap {B = ℕ} (λ b. cond b 1 0) (gone x e) in
        rest ∙ omega (arith, one, none)

    pub count_seen : (xs : List A) → count_by p (filter k (map f xs)) ≡ count_by q xs
    count_seen [] = refl
    count_seen (x ∷ xs) = count_case x xs (k (f x)) refl (count_seen xs)

  pub filter_map_is : (p : B → Bool) (xs : List A) → filter p (map f xs) ≡ map f (filter (λ x. p (f x)) xs)
  filter_map_is p [] = refl
  filter_map_is p (x ∷ xs) = ap (λ ys. cond (p (f x)) (f x ∷ ys) ys) (filter_map_is p xs) ∙ by (p (f x))
    where
      by : (t : Bool) → cond t (f x ∷ map f (filter (λ y. p (f y)) xs)) (map f (filter (λ y. p (f y)) xs)) ≡ map f (cond t (x ∷ filter (λ y. p (f y)) xs) (filter (λ y. p (f y)) xs))
      by true = refl
      by false = refl

filter_all : {A : Type 0} (xs : List A) → filter (λ x. true) xs ≡ xs
filter_all [] = refl
filter_all (x ∷ xs) = ap (λ ys. x ∷ ys) (filter_all xs)

-- ---- what was told

mark_id : (m : Mark) (chunk : ChunkName) → id_of (note_in (m, chunk)) ≡ identity_in m
mark_id (Own content) chunk = refl
mark_id (Dead seq prefix key class) chunk = refl

told_id : (n : Notice) → id_of (told_in n) ≡ identity_in n.mark
told_id n = mark_id n.mark n.chunk

pub greater_is : (v : Seen) (k : Key) (n : ℕ) → not (scan_greater v k n) ≡ is_greatest (book_seen v).told k n
greater_is v k n = ap not (sym (any_map told_in _ _ (λ o. ap (λ (id : Identity). concerns id k && nat_lt n id.seq) (told_id o)) v.told.now))

pub newer_is : (v : Seen) (p n : ℕ) → not (scan_newer v p n) ≡ is_newest (book_seen v).told p n
newer_is v p n = ap not (sym (any_map told_in _ _ (λ o. ap (λ (id : Identity). is_clear id && (id.key.prefix == p) && nat_lt n id.seq) (told_id o)) v.told.now))

-- ---- what is present

pub passed_is : (v : Seen) (k : Key) (n : ℕ) → scan_passed v k n ≡ is_passed (book_seen v).present k n
passed_is v k n = sym (any_seen entry_in (is_kept v.without) (λ o. not (is_clear o.id) && is_key k o.id.key && nat_lt n o.id.seq) _ (λ o. and4 (is_kept v.without (entry_in o)) (not (is_clear (identity_in o.mark))) (is_key k (identity_in o.mark).key) (nat_lt n (identity_in o.mark).seq)) v.present.now)

pub passed_under_is : (v : Seen) (p n : ℕ) → scan_passed_under v p n ≡ is_passed_under (book_seen v).present p n
passed_under_is v p n = sym (any_seen entry_in (is_kept v.without) (λ o. is_clear o.id && (o.id.key.prefix == p) && nat_lt n o.id.seq) _ (λ o. and4 (is_kept v.without (entry_in o)) (is_clear (identity_in o.mark)) ((identity_in o.mark).key.prefix == p) (nat_lt n (identity_in o.mark).seq)) v.present.now)

pub older_is : (v : Seen) (k : Key) (n : ℕ) → scan_older v k n ≡ has_older (book_seen v).present k n
older_is v k n = sym (any_seen entry_in (is_kept v.without) (λ o. is_value o.id && is_key k o.id.key && nat_lt o.id.seq n) _ (λ o. and4 (is_kept v.without (entry_in o)) (is_value (identity_in o.mark)) (is_key k (identity_in o.mark).key) (nat_lt (identity_in o.mark).seq n)) v.present.now)

pub older_under_is : (v : Seen) (p n : ℕ) → scan_older_under v p n ≡ has_older_under (book_seen v).present p n
older_under_is v p n = sym (any_seen entry_in (is_kept v.without) (λ o. is_value o.id && (o.id.key.prefix == p) && nat_lt o.id.seq n) _ (λ o. and4 (is_kept v.without (entry_in o)) (is_value (identity_in o.mark)) ((identity_in o.mark).key.prefix == p) (nat_lt (identity_in o.mark).seq n)) v.present.now)

pub stale_is : (v : Seen) (k : Key) → scan_stale v k ≡ stale (book_seen v) k
stale_is v k =
    sym (count_seen entry_in (is_kept v.without) (λ e. is_value e.id && is_key k e.id.key && is_passed (book_seen v).present k e.id.seq) _
    (λ e. and4 (is_kept v.without (entry_in e)) (is_value (identity_in e.mark)) (is_key k (identity_in e.mark).key) (is_passed (book_seen v).present k (identity_in e.mark).seq) ∙ ap (λ b. is_kept v.without (entry_in e) && is_value (identity_in e.mark) && is_key k (identity_in e.mark).key && b) (sym (passed_is v k (identity_in e.mark).seq)))
    v.present.now)

pub stale_under_is : (v : Seen) (p : ℕ) → scan_stale_under v p ≡ stale_prefix (book_seen v) p
stale_under_is v p =
    sym (count_seen entry_in (is_kept v.without) (λ e. is_value e.id && (e.id.key.prefix == p) && is_passed_under (book_seen v).present p e.id.seq) _
    (λ e. and4 (is_kept v.without (entry_in e)) (is_value (identity_in e.mark)) ((identity_in e.mark).key.prefix == p) (is_passed_under (book_seen v).present p (identity_in e.mark).seq) ∙ ap (λ b. is_kept v.without (entry_in e) && is_value (identity_in e.mark) && ((identity_in e.mark).key.prefix == p) && b) (sym (passed_under_is v p (identity_in e.mark).seq)))
    v.present.now)

-- ---- what is live

pub needed_is : (c : Class) (v : Seen) (id : Identity) → scan_needed c v id ≡ is_needed c (book_seen v) id
needed_is Value v id = greater_is v id.key id.seq
needed_is Tomb v id = ap (λ b. b && scan_older v id.key id.seq) (greater_is v id.key id.seq) ∙ ap (λ b. is_greatest (book_seen v).told id.key id.seq && b) (older_is v id.key id.seq)
needed_is Clear v id = ap (λ b. b && scan_older_under v id.key.prefix id.seq) (newer_is v id.key.prefix id.seq) ∙ ap (λ b. is_newest (book_seen v).told id.key.prefix id.seq && b) (older_under_is v id.key.prefix id.seq)

pub live_is : (v : Seen) (s : Spot) → scan_live v s ≡ is_live (book_seen v) (entry_in s)
live_is v s = ap (λ b. s.place && b) (needed_is (identity_in s.mark).class v (identity_in s.mark))

pub lives_is : (v : Seen) (n : ℕ) → scan_lives v n ≡ lives (book_seen v) n
lives_is v n =
    sym (any_seen entry_in (is_kept v.without) (λ e. (e.id.seq == n) && is_live (book_seen v) e) _
    (λ e. and3 (is_kept v.without (entry_in e)) ((identity_in e.mark).seq == n) (is_live (book_seen v) (entry_in e)) ∙ ap (λ b. is_kept v.without (entry_in e) && ((identity_in e.mark).seq == n) && b) (sym (live_is v e)))
    v.present.now)

pub lapsed_is : (v after : Seen) → scan_lapsed v after ≡ lapsed (book_seen v) (book_seen after)
lapsed_is v after =
    sym (count_seen entry_in (is_kept v.without) (λ e. not (is_value e.id) && is_live (book_seen v) e && not (lives (book_seen after) e.id.seq)) _
    (λ e. and4 (is_kept v.without (entry_in e)) (not (is_value (identity_in e.mark))) (is_live (book_seen v) (entry_in e)) (not (lives (book_seen after) (identity_in e.mark).seq))
    ∙ ap (λ b. is_kept v.without (entry_in e) && not (is_value (identity_in e.mark)) && b && not (lives (book_seen after) (identity_in e.mark).seq)) (sym (live_is v e))
    ∙ ap (λ b. is_kept v.without (entry_in e) && not (is_value (identity_in e.mark)) && scan_live v e && not b) (sym (lives_is after (identity_in e.mark).seq)))
    v.present.now)

pub among_is : (v : Seen) (chunk : ChunkName) (ss : List Spot) → scan_among v chunk ss ≡ live_among (book_seen v) chunk (map entry_in ss)
among_is v chunk [] = refl
among_is v chunk (s ∷ ss) =
    ap (scan_chosen v chunk s) (among_is v chunk ss)
    ∙ ap (λ b. if is_name s.chunk chunk && b then with_content (content_in s.mark) (live_among (book_seen v) chunk (map entry_in ss)) else live_among (book_seen v) chunk (map entry_in ss)) (live_is v s)

-- ---- the whole lists, and what is left of them

abbrev pub book_with : List Notice → List Spot → Option ChunkName → Book
book_with told present without = record { told = map told_in told; present = filter (is_kept without) (map entry_in present) }

module _ (l : Lists) (v : Seen) (told : v.told.now ≡ l.told.items) (present : v.present.now ≡ l.present.items) where
  pub seen_is : (without : Option ChunkName) → v.without ≡ without → book_seen v ≡ book_with l.told.items l.present.items without
  seen_is without e = λ i. book_with (told i) (present i) (e i)

  pub seen_all : v.without ≡ None → book_seen v ≡ book_in l
  seen_all e = seen_is None e ∙ ap (λ (es : List Entry). record { told = map told_in l.told.items; present = es }) (filter_all (map entry_in l.present.items))

  pub seen_without : (chunk : ChunkName) → v.without ≡ Some chunk → book_seen v ≡ forgotten_in (book_in l) chunk
  seen_without chunk e = seen_is (Some chunk) e

  pub all_live : (chunk : ChunkName) → v.without ≡ None → scan_among v chunk v.present.now ≡ live_records (book_in l) chunk
  all_live chunk e =
      among_is v chunk v.present.now ∙ ap (λ (ss : List Spot). live_among (book_seen v) chunk (map entry_in ss)) present
      ∙ ap (λ (b : Book). live_among b chunk (map entry_in l.present.items)) (seen_all e)

-- ---- records by number

insert_more : {A : Type 0} (r x : A) (xs : List A) (n : ℕ) → insert (x ∷ xs) (n + 1) r ≡ x ∷ insert xs n r
insert_more r x xs n = ap (λ k. take k (x ∷ xs) ++ r ∷ drop k (x ∷ xs)) (add-one n)

pub inserted : (r : Record) (rs : List Record) → insert rs (smaller (seq_of r) rs) r ≡ by_number r rs
inserted r [] = refl
inserted r (x ∷ rs) = by (nat_lt (seq_of x) (seq_of r)) (inserted r rs)
  where
    by : (t : Bool) → insert rs (smaller (seq_of r) rs) r ≡ by_number r rs
        → insert (x ∷ rs) (cond t (smaller (seq_of r) rs + 1) 0) r ≡ cond t (x ∷ by_number r rs) (r ∷ x ∷ rs)
    by true rest = insert_more r x rs (smaller (seq_of r) rs) ∙ ap (λ ys. x ∷ ys) rest
    by false rest = refl

-- one more of them is passed, or the first that is not smaller stands there
module _ (n : ℕ) (rs : List Record) (i : ℕ) (d : Record) (here : i < length rs) where
  smaller_step : smaller n (drop i rs) ≡ (if nat_lt (seq_of (get_or rs i d)) n then smaller n (drop (i + 1) rs) + 1 else 0)
  smaller_step = ap (smaller n) (drop_more rs i d here)

  pub smaller_more : seq_of (get_or rs i d) < n → smaller n rs ≡ i + smaller n (drop i rs) → smaller n rs ≡ (i + 1) + smaller n (drop (i + 1) rs)
  smaller_more less so =
      let step = smaller_step ∙ ap (λ b. if b then smaller n (drop (i + 1) rs) + 1 else 0) (lt-ltb (seq_of (get_or rs i d)) n less) in
      omega (arith, so, step)

  pub smaller_ends : n ≤ seq_of (get_or rs i d) → smaller n rs ≡ i + smaller n (drop i rs) → i ≡ smaller n rs
  smaller_ends more so =
      let step = smaller_step ∙ ap (λ b. if b then smaller n (drop (i + 1) rs) + 1 else 0) (le-ltb (seq_of (get_or rs i d)) n more) in
      omega (arith, so, step)

pub smaller_all : (n : ℕ) (rs : List Record) (i : ℕ) → length rs ≤ i → i ≤ length rs → smaller n rs ≡ i + smaller n (drop i rs) → length rs ≡ smaller n rs
smaller_all n rs i all within so =
    let none = ap (smaller n) (drop_all i rs all) in
    omega (arith, so, none, all, within)
