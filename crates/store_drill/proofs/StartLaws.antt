-- A folder restarts to one start, and what lines need hangs only on what partitions that are there begin with.
use Rattle.std.specs.Prelude.{◌≡◌, ◌⊎◌, ℕ, ◌+◌, ◌<◌, ◌==◌, Bool, true, false, List, [], ◌∷◌, All, take, None, Some, slice_get, zero, suc, if◌then◌else◌}
use Rattle.std.proofs.Common.{sym, ◌∙◌, ap, subst, inl, inr, arith}
use Rattle.std.proofs.lemmas.List.Elements.{All-head, All-tail}
use Rattle.hr_base.specs.declared.limits.Limits.{Limits}
use Rattle.hr_base.specs.declared.name.ChunkName.{ChunkName}
use Rattle.hr_base.specs.Entries.{Entries}
use Rattle.dir_files.specs.Images.{Image}
use Rattle.record_format.specs.declared.record.Record.{Record}
use Rattle.record_format.specs.Spelling.{seq_of}
use Rattle.crash_law.specs.Restarts.{Fact}
use Rattle.crash_law.proofs.RestartLaws.{one_restart_of}
use Rattle.record_replay.specs.Replays.{IsNext}
use Rattle.script_text.specs.declared.line.Line.{Line}
use Rattle.script_text.specs.declared.line.Mode.{Mode}
use Rattle.script_text.specs.declared.line.Mode.TheVariants.{Play}
use Rattle.script_text.specs.Lines.{IsLine, partition_of}
use Rattle.script_text.specs.Replies.{changed_at, maps_after_line, maps_after_lines, maps_after_one}
use Rattle.restart_load.specs.Writers.{IsNextChunk, IsWriterChunk}
use Rattle.store_drill.specs.Numbers.{IsSpentAt, Numbers, SessionStart, numbers_after, numbers_after_lines, numbers_after_one, numbers_at, spent_for, written_for}
use Rattle.store_drill.specs.Sessions.{IsStart}
use Rattle.store_drill.proofs.StepLaws.{of_partition}

-- ---- the start of a folder

-- the least number above those of some things, and 1 where there is none
one_least : {A : Type 0} (IsOne : A → Type 0) (number : A → ℕ) (a b : ℕ)
    → ((x : A) → IsOne x → number x < a) → ((x : A) × IsOne x × (number x + 1 ≡ a)) ⊎ (((x : A) → IsOne x → ⊥) × (a ≡ 1))
    → ((x : A) → IsOne x → number x < b) → ((x : A) × IsOne x × (number x + 1 ≡ b)) ⊎ (((x : A) → IsOne x → ⊥) × (b ≡ 1)) → a ≡ b
one_least IsOne number a b above (inl x) above' (inl y) = omega (arith, x.2, y.2, above y.0 y.1, above' x.0 x.1)
one_least IsOne number a b above (inl x) above' (inr none) = absurd (none.0 x.0 x.1)
one_least IsOne number a b above (inr none) above' (inl y) = absurd (none.0 y.0 y.1)
one_least IsOne number a b above (inr none) above' (inr other) = none.1 ∙ sym other.1

one_next : (facts : Record → Type 0) (a b : ℕ) → IsNext facts a → IsNext facts b → a ≡ b
one_next facts a b x y = one_least facts seq_of a b x.above x.least y.above y.least

one_next_chunk : (image : Image) (p a b : ℕ) → IsNextChunk image p a → IsNextChunk image p b → a ≡ b
one_next_chunk image p a b x y = one_least (IsWriterChunk image p) (λ (name : ChunkName). name.number.0) a b x.above x.least y.above y.least

-- the same for each partition that is there
abbrev SameBelow : {A : Type 0} → ℕ → (ℕ → A) → (ℕ → A) → Type 0
SameBelow partitions f g = (p : ℕ) → p < partitions → f p ≡ g p

-- two starts with the same maps and numbers
record SameStart (partitions : ℕ) (a b : SessionStart) : Type 0 where
  pub maps : SameBelow partitions a.maps b.maps
  pub next : SameBelow partitions a.next b.next
  pub next_chunk : SameBelow partitions a.next_chunk b.next_chunk

one_start : (image : Image) (partitions : ℕ) (a b : SessionStart) → IsStart image partitions a → IsStart image partitions b → SameStart partitions a b
one_start image partitions a b x y = record {
  maps = λ p below. one_restart_of (Fact image p) (a.maps p) (b.maps p) (x.maps.restartable.parts p below).agree (x.maps.each p below) (y.maps.each p below);
  next = λ p below. one_next (Fact image p) (a.next p) (b.next p) (x.next p below) (y.next p below);
  next_chunk = λ p below. one_next_chunk image p (a.next_chunk p) (b.next_chunk p) (x.next_chunk p below) (y.next_chunk p below);
}

-- ---- lines over it

changed_same_below : {A : Type 0} (partitions : ℕ) (f g : ℕ → A) (q : ℕ) (v w : A) → SameBelow partitions f g → v ≡ w → SameBelow partitions (changed_at f q v) (changed_at g q w)
changed_same_below {A = A} partitions f g q v w same e p below = choose (p == q) where
  choose : (b : Bool) → (if b then v else f p) ≡ (if b then w else g p)
  choose true = e
  choose false = same p below

-- each line is for a partition that is there
abbrev AreFor : ℕ → List Line → Type 0
AreFor partitions [] = Unit {0}
AreFor partitions (line ∷ lines) = (partition_of line < partitions) × AreFor partitions lines

are_for : (mode : Mode) (partitions : ℕ) (lines : List Line) → All (IsLine mode partitions) lines → AreFor partitions lines
are_for mode partitions [] all = tt
are_for mode partitions (line ∷ lines) all =
    (of_partition mode partitions line (All-head (IsLine mode partitions) line lines all), are_for mode partitions lines (All-tail (IsLine mode partitions) line lines all))

for_take : (partitions n : ℕ) (lines : List Line) → AreFor partitions lines → AreFor partitions (take n lines)
for_take partitions zero lines all = tt
for_take partitions (suc n) [] all = tt
for_take partitions (suc n) (line ∷ lines) all = (all.0, for_take partitions n lines all.1)

for_at : (partitions : ℕ) (lines : List Line) (i : ℕ) (line : Line) → AreFor partitions lines → slice_get lines i ≡ Some line → partition_of line < partitions
for_at partitions [] i line all is = cc
for_at partitions (x ∷ xs) zero line all is = let same : x ≡ line = cc in subst (λ (l : Line). partition_of l < partitions) same all.0
for_at partitions (x ∷ xs) (suc i) line all is = for_at partitions xs i line all.1 is

maps_same : (partitions : ℕ) (lines : List Line) (m k : ℕ → Entries) → AreFor partitions lines → SameBelow partitions m k → SameBelow partitions (maps_after_lines lines m) (maps_after_lines lines k)
maps_same partitions [] m k all same = same
maps_same partitions (line ∷ lines) m k all same =
    maps_same partitions lines (maps_after_one line m) (maps_after_one line k) all.1
    (changed_same_below partitions m k (partition_of line) (maps_after_line line (m (partition_of line))) (maps_after_line line (k (partition_of line))) same
    (ap (maps_after_line line) (same (partition_of line) all.0)))

numbers_same : (limits : Limits) (partitions : ℕ) (lines : List Line) (m k : ℕ → Entries) (a b : ℕ → Numbers) → AreFor partitions lines → SameBelow partitions m k → SameBelow partitions a b
    → SameBelow partitions (numbers_after_lines limits lines m a) (numbers_after_lines limits lines k b)
numbers_same limits partitions [] m k a b all maps same = same
numbers_same limits partitions (line ∷ lines) m k a b all maps same =
    let p : ℕ = partition_of line in
    numbers_same limits partitions lines (maps_after_one line m) (maps_after_one line k) (numbers_after_one limits line m a) (numbers_after_one limits line k b) all.1
    (changed_same_below partitions m k p (maps_after_line line (m p)) (maps_after_line line (k p)) maps (ap (maps_after_line line) (maps p all.0)))
    (changed_same_below partitions a b p (numbers_after limits (a p) (written_for line (m p))) (numbers_after limits (b p) (written_for line (k p))) same
    (ap (λ (n : Numbers). numbers_after limits n (written_for line (m p))) (same p all.0) ∙ ap (λ (e : Entries). numbers_after limits (b p) (written_for line e)) (maps p all.0)))

-- a line that needs a number which none can have does so over each of them
spent_same : (limits : Limits) (partitions : ℕ) (lines : List Line) (count : ℕ) (a b : SessionStart) (next : ℕ) → AreFor partitions lines → SameStart partitions a b
    → IsSpentAt limits lines count a next → IsSpentAt limits lines count b next
spent_same limits partitions lines count a b next all same spent =
    let p : ℕ = partition_of spent.line in
    let below : p < partitions = for_at partitions lines count spent.line all spent.there in
    let front : AreFor partitions (take count lines) = for_take partitions count lines all in
    let maps : maps_after_lines (take count lines) a.maps p ≡ maps_after_lines (take count lines) b.maps p = maps_same partitions (take count lines) a.maps b.maps front same.maps p below in
    let starts : SameBelow partitions (numbers_at a) (numbers_at b) = λ q under i. record { next = same.next q under i; next_chunk = same.next_chunk q under i; sizes = λ class. None } in
    let numbers : numbers_after_lines limits (take count lines) a.maps (numbers_at a) p ≡ numbers_after_lines limits (take count lines) b.maps (numbers_at b) p =
    numbers_same limits partitions (take count lines) a.maps b.maps (numbers_at a) (numbers_at b) front same.maps starts p below in
    record {
      line = spent.line;
      there = spent.there;
      needs =
          sym (ap (λ (n : Numbers). spent_for limits n (written_for spent.line (maps_after_lines (take count lines) a.maps p))) numbers
          ∙ ap (λ (e : Entries). spent_for limits (numbers_after_lines limits (take count lines) b.maps (numbers_at b) p) (written_for spent.line e)) maps)
          ∙ spent.needs;
    }

-- and so over each start of the folder
pub one_spending : (image : Image) (limits : Limits) (lines : List Line) (count : ℕ) (a b : SessionStart) (next : ℕ) → All (IsLine Play limits.partitions) lines
    → IsStart image limits.partitions a → IsStart image limits.partitions b → IsSpentAt limits lines count a next → IsSpentAt limits lines count b next
one_spending image limits lines count a b next all x y spent =
    spent_same limits limits.partitions lines count a b next (are_for Play limits.partitions lines all) (one_start image limits.partitions a b x y) spent
