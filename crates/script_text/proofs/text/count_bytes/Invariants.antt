use Rattle.std.proofs.Common.{◌≡◌, ◌<◌, ◌≤◌, ◌+◌, ◌++◌, List, ℕ, All, length}
use Rattle.std.specs.List.{flat_map}
use Rattle.script_text.specs.Texts.{byte_text}
use Rattle.script_text.proofs.text.count_bytes.Given as goal

-- the text so far is that of some bytes, as many as were counted
abbrev pub invariant-loop-rest : goal.invariant-loop-rest
invariant-loop-rest l =
    (bytes : List ℕ) × All (λ b. b < 256) bytes × (l.text ≡ flat_map byte_text bytes ++ l.rest) × (length bytes ≡ l.count) × (l.count + length l.rest ≤ length l.text)

abbrev pub decreases-loop-rest : goal.decreases-loop-rest
decreases-loop-rest l = length l.rest
