-- Lists that change in place, or one element after the other.
use Rattle.std.specs.Prelude.{◌≡◌, ℕ, ◌+◌, ◌<◌, ◌≤◌, ◌==◌, ◌&&◌, ◌||◌, Bool, true, false, not, zero, suc, cond, List, [], ◌∷◌, ◌++◌, length, map, take, drop, filter, Option, Some, None, is_some, refl, if◌then◌else◌}
use Rattle.std.specs.List.{list_any}
use Rattle.std.specs.Option.{option_map}
use Rattle.std.proofs.Common.{get_or, set, sym, ◌∙◌, ap, add-one, arith, true≢false}
use Rattle.std.proofs.lemmas.List.{get_or-drop, drop-set-lt, drop-drop, take_all, take_more, take_more_set, map_more}
use Rattle.hr_base.specs.declared.name.ChunkName.{ChunkName}
use Rattle.hr_base.specs.NameTests.{is_name}
use Rattle.gc_event.specs.Books.{Entry, copied_in, copy_of, entry_of, forgotten_in, has_copy, heard_in, is_at, is_waiting, last_in, moved_in, settled, with_place}
use Rattle.gc_event.specs.Notes.{Note}
use Rattle.occ_ledger.specs.declared.mark.Mark.{Mark}
use Rattle.occ_ledger.specs.declared.mark.Mark.TheVariants.{Own, Dead}
use Rattle.occ_ledger.specs.declared.lists.Notice.{Notice}
use Rattle.occ_ledger.specs.declared.lists.Spot.{Spot}
use Rattle.occ_ledger.specs.Marks.{content_in, identity_in, note_in}
use Rattle.occ_ledger.specs.declared.lists.Lists.{Lists}
use Rattle.occ_ledger.specs.Lists.{book_in, entry_in, told_in}
use Rattle.occ_ledger.specs.Scans.{ended_spot, place_in, placed, spots_copy, unplaced_spot, with_spot}
use Rattle.occ_ledger.proofs.ScanLaws.{any_map, filter_map_is}

-- ---- a loop that changes each element in place

module _ {A : Type 0} (now old : List A) (i : ℕ) (c : A) (here : i < length now) (inside : i < length old) (rest : drop i now ≡ drop i old) where
  pub read_old : get_or now i c ≡ get_or old i c
  read_old =
      sym (get_or-drop i now 0 c ∙ ap (λ (k : ℕ). get_or now k c) (omega arith))
      ∙ ap (λ (cs : List A). get_or cs 0 c) rest
      ∙ get_or-drop i old 0 c ∙ ap (λ (k : ℕ). get_or old k c) (omega arith)

  pub rest_old : drop (i + 1) now ≡ drop (i + 1) old
  rest_old = sym (drop-drop 1 i now) ∙ ap (drop 1) rest ∙ drop-drop 1 i old

  pub set_rest : (d : A) → drop (i + 1) (set now i d) ≡ drop (i + 1) old
  set_rest d = drop-set-lt (i + 1) now i d (omega arith) ∙ rest_old

  pub mapped_front : (f : A → A) → take i now ≡ map f (take i old) → take (i + 1) (set now i (f (get_or now i c))) ≡ map f (take (i + 1) old)
  mapped_front f front =
      take_more_set now i (f (get_or now i c)) here
      ∙ ap (λ (cs : List A). cs ++ f (get_or now i c) ∷ []) front
      ∙ ap (λ (x : A). map f (take i old) ++ f x ∷ []) read_old
      ∙ sym (map_more f old i c inside)

-- ---- places

copy_kept : (i : ℕ) (all xs : List Spot) (n : ℕ) → spots_copy (take i (placed all xs) ++ drop i xs) n ≡ spots_copy xs n
copy_kept zero all xs n = refl
copy_kept (suc i) all [] n = refl
copy_kept (suc i) all (x ∷ xs) n = ap (λ b. (((identity_in x.mark).seq == n) && is_waiting (entry_in x)) || b) (copy_kept i all xs n)

take_drop_is : (i : ℕ) (now : List Spot) → take i now ++ drop i now ≡ now
take_drop_is zero now = refl
take_drop_is (suc i) [] = refl
take_drop_is (suc i) (x ∷ xs) = ap (λ ys. x ∷ ys) (take_drop_is i xs)

pub placed_length : (all xs : List Spot) → length (placed all xs) ≡ length xs
placed_length all [] = refl
placed_length all (x ∷ xs) = ap suc (placed_length all xs)

-- what stands at a place once the places are moved
moved_spot : List Spot → Spot → List Spot → Spot
moved_spot all s ss = with_spot s.waiting (place_in all s ss) s

placed_at : (i : ℕ) (all xs : List Spot) (d : Spot) → i < length xs → get_or (placed all xs) i d ≡ with_spot (get_or xs i d).waiting (place_in all (get_or xs i d) (drop (suc i) xs)) (get_or xs i d)
placed_at i all [] d here = absurd (omega (arith, here))
placed_at zero all (x ∷ xs) d here = refl
placed_at (suc i) all (x ∷ xs) d here = placed_at i all xs d (omega (arith, here))

module _ (now old : List Spot) (i : ℕ) (c : Spot) (here : i < length now) (inside : i < length old)
    (front : take i now ≡ take i (placed old old)) (rest : drop i now ≡ drop i old) where
  copy_same : (n : ℕ) → spots_copy now n ≡ spots_copy old n
  copy_same n = ap (λ ss. spots_copy ss n) (sym (take_drop_is i now)) ∙ ap (λ ss. spots_copy (ss ++ drop i now) n) front ∙ ap (λ ss. spots_copy (take i (placed old old) ++ ss) n) rest ∙ copy_kept i old old n

  place_same : place_in now (get_or now i c) (drop (i + 1) now) ≡ place_in old (get_or old i c) (drop (i + 1) old)
  place_same =
      ap (λ s. place_in now s (drop (i + 1) now)) (read_old now old i c here inside rest)
      ∙ ap (λ ss. place_in now (get_or old i c) ss) (rest_old now old i c here inside rest)
      ∙ (let s = get_or old i c in
      ap (λ b. if is_waiting (entry_in s) then not (spots_copy (drop (i + 1) old) (identity_in s.mark).seq) else s.place && not b) (copy_same (identity_in s.mark).seq))

  pub placed_front : (place : Bool) → place ≡ place_in now (get_or now i c) (drop (i + 1) now)
      → take (i + 1) (set now i (with_spot (get_or now i c).waiting place (get_or now i c))) ≡ take (i + 1) (placed old old)
  placed_front place e =
      take_more_set now i (with_spot (get_or now i c).waiting place (get_or now i c)) here
      ∙ ap (λ ss. ss ++ with_spot (get_or now i c).waiting place (get_or now i c) ∷ []) front
      ∙ ap (λ (b : Bool). take i (placed old old) ++ with_spot (get_or now i c).waiting b (get_or now i c) ∷ []) (e ∙ place_same)
      ∙ ap (λ (s : Spot). take i (placed old old) ++ with_spot s.waiting (place_in old (get_or old i c) (drop (i + 1) old)) s ∷ []) (read_old now old i c here inside rest)
      ∙ ap (λ (k : ℕ). take i (placed old old) ++ with_spot (get_or old i c).waiting (place_in old (get_or old i c) (drop k old)) (get_or old i c) ∷ []) (add-one i)
      ∙ ap (λ (s : Spot). take i (placed old old) ++ s ∷ []) (sym (placed_at i old old c inside))
      ∙ sym (take_more (placed old old) i c (omega (arith, inside, placed_length old old)))

copy_is : (ss : List Spot) (n : ℕ) → has_copy (map entry_in ss) n ≡ spots_copy ss n
copy_is ss n = any_map entry_in _ _ (λ s. refl) ss

pub settled_is : (all ss : List Spot) → map entry_in (map ended_spot (placed all ss)) ≡ settled (map entry_in all) (map entry_in ss)
settled_is all [] = refl
settled_is all (s ∷ ss) =
    ap (λ es. entry_in (ended_spot (with_spot s.waiting (place_in all s ss) s)) ∷ es) (settled_is all ss)
    ∙ ap (λ b. entry_in (ended_spot (with_spot s.waiting b s)) ∷ settled (map entry_in all) (map entry_in ss))
    (sym (ap (λ b. if is_waiting (entry_in s) then not b else s.place && not (has_copy (map entry_in all) (identity_in s.mark).seq)) (copy_is ss (identity_in s.mark).seq)
    ∙ ap (λ b. if is_waiting (entry_in s) then not (spots_copy ss (identity_in s.mark).seq) else s.place && not b) (copy_is all (identity_in s.mark).seq)))

-- ---- what is told

and_true : (b : Bool) → (b && true) ≡ b
and_true true = refl
and_true false = refl

and_false : (b : Bool) → (b && false) ≡ false
and_false true = refl
and_false false = refl

unplaced_is : (own : Bool) (n : ℕ) (s : Spot) → entry_in (unplaced_spot own n s) ≡ (if own && ((identity_in s.mark).seq == n) then with_place false (entry_in s) else entry_in s)
unplaced_is own n s = by (own && ((identity_in s.mark).seq == n))
  where
    by : (t : Bool) → entry_in (with_spot s.waiting (s.place && not t) s) ≡ cond t (with_place false (entry_in s)) (entry_in s)
    by true = ap (λ b. entry_in (with_spot s.waiting b s)) (and_false s.place)
    by false = ap (λ b. entry_in (with_spot s.waiting b s)) (and_true s.place)

unplaced_all : (own : Bool) (n : ℕ) (ss : List Spot) → map entry_in (map (unplaced_spot own n) ss) ≡ map (λ e. if own && (e.id.seq == n) then with_place false e else e) (map entry_in ss)
unplaced_all own n [] = refl
unplaced_all own n (s ∷ ss) =
    ap (λ e. e ∷ map entry_in (map (unplaced_spot own n) ss)) (unplaced_is own n s)
    ∙ ap (λ es. (if own && ((identity_in s.mark).seq == n) then with_place false (entry_in s) else entry_in s) ∷ es) (unplaced_all own n ss)

map_last : {A B : Type 0} (f : A → B) (xs : List A) (x : A) → map f (xs ++ x ∷ []) ≡ map f xs ++ f x ∷ []
map_last f [] x = refl
map_last f (y ∷ ys) x = ap (λ zs. f y ∷ zs) (map_last f ys x)

-- the lists with one notice and one spot more
abbrev pub told_more : Mark → ChunkName → List Notice → List Notice
told_more m chunk ts = ts ++ record { mark = m; chunk = chunk } ∷ []

abbrev pub spots_more : Mark → ChunkName → Bool → List Spot → List Spot
spots_more m chunk own ss = map (unplaced_spot own (identity_in m).seq) ss ++ record { mark = m; chunk = chunk; waiting = false; place = own } ∷ []

heard_by_own : (m : Mark) (chunk : ChunkName) (own : Bool) → own ≡ is_some (content_in m) → (es : List Note) (ss : List Spot)
    → record { told = es ++ note_in (m, chunk) ∷ []; present = map entry_in (map (unplaced_spot own (identity_in m).seq) ss) ++ entry_in (record { mark = m; chunk = chunk; waiting = false; place = own }) ∷ [] }
    ≡ heard_in (record { told = es; present = map entry_in ss }) (note_in (m, chunk))
heard_by_own (Own content) chunk true e es ss = λ i. record { told = es ++ note_in (Own content, chunk) ∷ []; present = unplaced_all true (identity_in (Own content)).seq ss i ++ entry_of (note_in (Own content, chunk)) ∷ [] }
heard_by_own (Own content) chunk false e es ss = absurd (true≢false (sym e))
heard_by_own (Dead seq prefix key class) chunk true e es ss = absurd (true≢false e)
heard_by_own (Dead seq prefix key class) chunk false e es ss = λ i. record { told = es ++ note_in (Dead seq prefix key class, chunk) ∷ []; present = unplaced_all false seq.0 ss i ++ entry_of (note_in (Dead seq prefix key class, chunk)) ∷ [] }

pub heard_is : (m : Mark) (chunk : ChunkName) (own : Bool) → own ≡ is_some (content_in m) → (l k : Lists)
    → k.told.items ≡ told_more m chunk l.told.items → k.present.items ≡ spots_more m chunk own l.present.items
    → book_in k ≡ heard_in (book_in l) (note_in (m, chunk))
heard_is m chunk own e l k t r =
    (λ i. record {
      told = (ap (map told_in) t ∙ map_last told_in l.told.items (record { mark = m; chunk = chunk })) i;
      present = (ap (map entry_in) r ∙ map_last entry_in (map (unplaced_spot own (identity_in m).seq) l.present.items) (record { mark = m; chunk = chunk; waiting = false; place = own })) i;
    })
    ∙ heard_by_own m chunk own e (map told_in l.told.items) l.present.items

-- ---- what goes

pub forgotten_is : (l k : Lists) (chunk : ChunkName) → k.told.items ≡ l.told.items → k.present.items ≡ filter (λ s. not (is_name s.chunk chunk)) l.present.items
    → book_in k ≡ forgotten_in (book_in l) chunk
forgotten_is l k chunk t r =
    (λ i. record { told = map told_in (t i); present = map entry_in (r i) })
    ∙ ap (λ (es : List Entry). record { told = map told_in l.told.items; present = es }) (sym (filter_map_is entry_in (λ e. not (is_name e.chunk chunk)) l.present.items))

pub moved_is : (l k : Lists) → k.told.items ≡ l.told.items → k.present.items ≡ map ended_spot (placed l.present.items l.present.items)
    → book_in k ≡ moved_in (book_in l)
moved_is l k t r =
    (λ i. record { told = map told_in (t i); present = map entry_in (r i) })
    ∙ ap (λ (es : List Entry). record { told = map told_in l.told.items; present = es }) (settled_is l.present.items l.present.items)

-- ---- copies

any_last : {A : Type 0} (p : A → Bool) (xs : List A) (x : A) → list_any p (xs ++ x ∷ []) ≡ (list_any p xs || p x)
any_last p [] x = or_false (p x)
  where
    or_false : (b : Bool) → (b || false) ≡ b
    or_false true = refl
    or_false false = refl
any_last p (y ∷ ys) x = ap (λ b. p y || b) (any_last p ys x) ∙ or_assoc (p y) (list_any p ys) (p x)
  where
    or_assoc : (a b c : Bool) → (a || (b || c)) ≡ ((a || b) || c)
    or_assoc true b c = refl
    or_assoc false b c = refl

pub last_more : (n : ℕ) (chunk : ChunkName) (es : List Entry) (e : Entry) → last_in (es ++ e ∷ []) n chunk ≡ (if is_at n chunk e then Some e else last_in es n chunk)
last_more n chunk [] e = refl
last_more n chunk (x ∷ es) e =
    ap (λ b. if b then last_in (es ++ e ∷ []) n chunk else if is_at n chunk x then Some x else None) (any_last (is_at n chunk) es e)
    ∙ ap (λ o. if list_any (is_at n chunk) es || is_at n chunk e then o else if is_at n chunk x then Some x else None) (last_more n chunk es e)
    ∙ by (list_any (is_at n chunk) es) (is_at n chunk e)
  where
    by : (a b : Bool) → (if a || b then (if b then Some e else last_in es n chunk) else if is_at n chunk x then Some x else None)
        ≡ (if b then Some e else if a then last_in es n chunk else if is_at n chunk x then Some x else None)
    by true true = refl
    by true false = refl
    by false true = refl
    by false false = refl

module _ (n : ℕ) (chunk : ChunkName) (ss : List Spot) (i : ℕ) (d : Spot) (here : i < length ss) where
  last_of : last_in (map entry_in (take (i + 1) ss)) n chunk ≡ (if is_at n chunk (entry_in (get_or ss i d)) then Some (entry_in (get_or ss i d)) else last_in (map entry_in (take i ss)) n chunk)
  last_of = ap (λ es. last_in es n chunk) (map_more entry_in ss i d here) ∙ last_more n chunk (map entry_in (take i ss)) (entry_in (get_or ss i d))

  pub last_then : is_at n chunk (entry_in (get_or ss i d)) ≡ true → last_in (map entry_in (take (i + 1) ss)) n chunk ≡ Some (entry_in (get_or ss i d))
  last_then e = last_of ∙ ap (λ b. if b then Some (entry_in (get_or ss i d)) else last_in (map entry_in (take i ss)) n chunk) e

  pub last_else : is_at n chunk (entry_in (get_or ss i d)) ≡ false → last_in (map entry_in (take (i + 1) ss)) n chunk ≡ last_in (map entry_in (take i ss)) n chunk
  last_else e = last_of ∙ ap (λ b. if b then Some (entry_in (get_or ss i d)) else last_in (map entry_in (take i ss)) n chunk) e

-- a copy of the spot that was found is entered, or none where none was
pub copied_is : (l k : Lists) (n : ℕ) (source to : ChunkName) (s : Spot) → last_in (book_in l).present n source ≡ Some (entry_in s)
    → k.told.items ≡ l.told.items → k.present.items ≡ l.present.items ++ record { mark = s.mark; chunk = to; waiting = true; place = false } ∷ []
    → book_in k ≡ copied_in (book_in l) n source to
copied_is l k n source to s last t r =
    (λ i. record {
      told = map told_in (t i);
      present = (ap (map entry_in) r ∙ map_last entry_in l.present.items (record { mark = s.mark; chunk = to; waiting = true; place = false })) i;
    })
    ∙ ap (λ o. record { told = map told_in l.told.items; present = map entry_in l.present.items ++ copy_of o to }) (sym last)

append_none : {A : Type 0} (xs : List A) → xs ++ [] ≡ xs
append_none [] = refl
append_none (x ∷ xs) = ap (λ ys. x ∷ ys) (append_none xs)

pub copied_none : (l : Lists) (n : ℕ) (source to : ChunkName) → last_in (book_in l).present n source ≡ None → book_in l ≡ copied_in (book_in l) n source to
copied_none l n source to last =
    (λ i. record { told = map told_in l.told.items; present = sym (append_none (map entry_in l.present.items)) i })
    ∙ ap (λ o. record { told = map told_in l.told.items; present = map entry_in l.present.items ++ copy_of o to }) (sym last)

-- once all are moved
pub placed_all : (now old : List Spot) (i : ℕ) → length now ≤ i → length old ≤ i → take i now ≡ take i (placed old old) → now ≡ placed old old
placed_all now old i all inside front = sym (take_all i now all) ∙ front ∙ take_all i (placed old old) (omega (arith, inside, placed_length old old))

pub some_map : {A B : Type 0} (f : A → B) (o : Option A) → is_some o ≡ is_some (option_map f o)
some_map f None = refl
some_map f (Some x) = refl
