-- The order of names.
use Rattle.std.specs.Prelude.{◌≡◌, true}
use Rattle.std.specs.Ordering.{nat_cmp, is_lt}
use Rattle.std.specs.Cmp.Lexicographic.{slice_cmp}
use Rattle.hr_base.specs.declared.name.ChunkName.{ChunkName}
use Rattle.hr_base.specs.Names.{name_text}

-- the text of the first comes before that of the second; the first byte that differs decides
abbrev pub ComesBefore : ChunkName → ChunkName → Type 0
ComesBefore a b = is_lt (slice_cmp nat_cmp (name_text a) (name_text b)) ≡ true
