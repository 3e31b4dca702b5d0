-- What a replay tells of facts: the next number, and the first clash.
use Rattle.std.specs.Prelude.{◌≡◌, ◌≢◌, ◌⊎◌, ℕ, ◌+◌, ◌<◌, ◌≤◌, List}
use Rattle.hr_base.specs.declared.limits.TheConstants.{SEQ_END}
use Rattle.hr_base.specs.declared.name.ChunkName.{ChunkName}
use Rattle.record_format.specs.declared.record.Record.{Record}
use Rattle.record_format.specs.Spelling.{seq_of}
use Rattle.crash_law.specs.Numbered.{IsIn}
use Rattle.crash_law.specs.Placed.{Placed, records_of}

-- the record as one that was found in the chunk
abbrev pub found_in : ChunkName → Record → Placed
found_in chunk r = record { content = r; chunk = chunk }

-- the facts that lie in found records
abbrev pub facts_in : List Placed → Record → Type 0
facts_in found = λ r. IsIn r (records_of found)

-- one fact has the number before this one; or there is no fact, and this is 1
abbrev pub FollowsFact : (Record → Type 0) → ℕ → Type 0
FollowsFact facts next = ((r : Record) × facts r × (seq_of r + 1 ≡ next)) ⊎ (((r : Record) → facts r → ⊥) × (next ≡ 1))

-- The number of the next record: the least one that is above the numbers of all facts, and 1 where there is none.
pub record IsNext (facts : Record → Type 0) (next : ℕ) : Type 0 where
  pub above : (r : Record) → facts r → seq_of r < next
  pub least : FollowsFact facts next
  pub numbered : 1 ≤ next
  pub limited : next ≤ SEQ_END

-- Two facts with this number differ.
pub record ClashesAt (facts : Record → Type 0) (seq : ℕ) : Type 0 where
  pub one : Record
  pub other : Record
  pub fact : facts one
  pub other_fact : facts other
  pub number : seq_of one ≡ seq
  pub other_number : seq_of other ≡ seq
  pub differ : one ≢ other

-- Two facts with this number differ, and none do with a smaller one.
pub record IsFirstClash (facts : Record → Type 0) (seq : ℕ) : Type 0 where
  pub clash : ClashesAt facts seq
  pub first : (smaller : ℕ) → smaller < seq → ¬ ClashesAt facts smaller
