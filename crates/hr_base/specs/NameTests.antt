-- Whether two chunk names are the same one, as a test that computes.
use Rattle.std.specs.Prelude.{◌==◌, Bool, ◌&&◌}
use Rattle.hr_base.specs.declared.name.ChunkName.{ChunkName}
use Rattle.hr_base.specs.Names.{letter_of_kind}

-- the two names are the same: they have one partition, one letter and one number
abbrev pub is_name : ChunkName → ChunkName → Bool
is_name a b =
    (a.partition.0 == b.partition.0) && ((letter_of_kind a.kind == letter_of_kind b.kind) && (a.number.0 == b.number.0))
