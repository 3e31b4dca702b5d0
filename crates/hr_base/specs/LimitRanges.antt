-- The ranges of the limits that a session works under.
use Rattle.std.specs.Prelude.{ℕ, ◌≤◌}
use Rattle.hr_base.specs.declared.limits.TheConstants.{MAX_PARTITIONS, MIN_CHUNK_LIMIT, MAX_CHUNK_LIMIT, MAX_PERCENT}
use Rattle.hr_base.specs.declared.limits.Limits.{Limits}

-- a count of partitions
pub record IsPartitionCount (n : ℕ) : Type 0 where
  pub some : 1 ≤ n
  pub few : n ≤ MAX_PARTITIONS

-- a number of bytes that a chunk may be limited to
pub record IsChunkLimit (n : ℕ) : Type 0 where
  pub least : MIN_CHUNK_LIMIT ≤ n
  pub most : n ≤ MAX_CHUNK_LIMIT

-- each number is in its range
pub record IsLimits (limits : Limits) : Type 0 where
  pub partitions : IsPartitionCount limits.partitions
  pub value : IsChunkLimit limits.value
  pub tomb : IsChunkLimit limits.tomb
  pub percent : limits.percent ≤ MAX_PERCENT
