-- The text of maps.
use Rattle.std.specs.Prelude.{ℕ, List, [], ◌++◌, codes, decimal, map, zero, suc}
use Rattle.std.specs.FinMap as finite
use Rattle.hr_base.specs.Entries.{Content, Entries, Key}
use Rattle.script_text.specs.Texts.{text_of}

-- an entry of a partition as one line, with its end
abbrev pub entry_text : ℕ → ℕ → List ℕ → List ℕ → List ℕ
entry_text p prefix key value = decimal p ++ codes " " ++ decimal prefix ++ codes " " ++ text_of key ++ codes " " ++ text_of value ++ codes "\n"

abbrev pub entry_line : ℕ → Key × Content → List ℕ
entry_line p e = entry_text p e.0.prefix e.0.bytes e.1.value

-- the lines of a partition's maps, by prefix and then by the bytes of the keys
abbrev pub lines_of_maps : ℕ → Entries → List (List ℕ)
lines_of_maps p maps = map (entry_line p) (finite.entries maps)

-- the lines of the first partitions, by partition
abbrev pub dump_lines : ℕ → (ℕ → Entries) → List (List ℕ)
dump_lines zero maps = []
dump_lines (suc partitions) maps = dump_lines partitions maps ++ lines_of_maps partitions (maps partitions)
