-- A walk over the bytes of a chunk file, which come in pieces.
use Rattle.std.specs.Prelude.{◌≡◌, ℕ, ◌-◌, ◌<◌, List, [], ◌∷◌, ◌++◌, length, Option, None, MatchOption, unwrap_or}
use Rattle.hr_base.specs.declared.limits.TheConstants.{MAX_RECORD_LEN}
use Rattle.hr_base.specs.declared.name.Class.{Class}
use Rattle.record_format.specs.declared.record.Record.{Record}
use Rattle.record_format.specs.Spelling.{spellings}
use Rattle.record_format.specs.Splits.{IsDamaged, IsTorn, Splits}
use Rattle.chunk_read.specs.Chunks.{with_offsets}

-- a walk, as contracts see it
pub record WalkState : Type 0 where
  pub class : Class
  -- how many bytes were fed
  pub fed : ℕ
  -- the whole records that were not handed out, each with the offset of its first byte
  pub waiting : List (ℕ × Record)
  -- the bytes behind the whole records; a damaged walk keeps none
  pub left : List ℕ
  -- where the bytes are damaged
  pub damage : Option ℕ

-- a walk to which nothing was fed
abbrev pub new_walk : Class → WalkState
new_walk class = record { class = class; fed = 0; waiting = []; left = []; damage = None }

-- The walk was fed these bytes, and handed out these records.
pub record StandsFor (walk : WalkState) (fed : List ℕ) (handed : List (ℕ × Record)) : Type 0 where
  -- the whole records of the bytes
  pub whole : List Record
  -- the bytes behind them
  pub left : List ℕ
  pub split : Splits walk.class fed whole left
  -- what was handed out and what waits are the whole records in order, each with its offset
  pub records : with_offsets 0 whole ≡ handed ++ walk.waiting
  -- What is left is torn, and the walk keeps it; or it is damaged, and the walk says where it begins.
  pub end : MatchOption walk.damage (IsTorn walk.class left × (walk.left ≡ left))
      (λ at. IsDamaged walk.class left × (at ≡ length (spellings whole)) × (walk.left ≡ []))
  pub count : walk.fed ≡ length fed

-- Each walk stands for some bytes and some records, and the torn bytes that it keeps are fewer than a record may
-- have.
pub record IsWalk (walk : WalkState) : Type 0 where
  pub bytes : List ℕ
  pub handed : List (ℕ × Record)
  pub stands : StandsFor walk bytes handed
  pub short : length walk.left < MAX_RECORD_LEN

-- these records, each with its offset, are all whole records of the bytes
pub record AreAllOf (class : Class) (bytes : List ℕ) (records : List (ℕ × Record)) : Type 0 where
  pub whole : List Record
  pub left : List ℕ
  pub split : Splits class bytes whole left
  pub same : records ≡ with_offsets 0 whole

-- the offset behind the whole records
abbrev pub whole_to : WalkState → ℕ
whole_to walk = unwrap_or walk.damage (walk.fed - length walk.left)

-- where the first of the records begins, or this offset where there is none
abbrev pub first_offset : List (ℕ × Record) → ℕ → ℕ
first_offset [] end = end
first_offset (r ∷ rs) end = r.0

-- how many of the bytes fed are in no record handed out
abbrev pub pending : WalkState → ℕ
pending walk = walk.fed - first_offset walk.waiting (whole_to walk)
