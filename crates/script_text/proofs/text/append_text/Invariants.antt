use Rattle.std.proofs.Common.{◌≡◌, ◌++◌, take}
use Rattle.std.specs.List.{flat_map}
use Rattle.script_text.specs.Texts.{byte_text}
use Rattle.script_text.proofs.text.append_text.Given as goal

-- the texts of the bytes so far were appended
abbrev pub invariant-loop-byte : goal.invariant-loop-byte
invariant-loop-byte l = l.out.items ≡ l.fn.out.items ++ flat_map byte_text (take l.byte-index l.bytes)
