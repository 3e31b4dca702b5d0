use Rattle.std.proofs.Common.{◌≡◌, ◌<◌, ◌≤◌, ◌++◌, List, ℕ, All, length, vec_capacity}
use Rattle.std.specs.List.{flat_map}
use Rattle.script_text.specs.Texts.{byte_text}
use Rattle.script_text.proofs.text.push_bytes.Given as goal

-- the text so far is that of some bytes, which were appended, and the room stays
abbrev pub invariant-loop-byte : goal.invariant-loop-byte
invariant-loop-byte l =
    (bytes : List ℕ) × All (λ b. b < 256) bytes × (l.text ≡ flat_map byte_text bytes ++ l.rest) × (l.out.items ≡ bytes) × (vec_capacity l.fn.out ≤ vec_capacity l.out)

abbrev pub decreases-loop-byte : goal.decreases-loop-byte
decreases-loop-byte l = length l.rest
