use Rattle.std.proofs.Common.{◌≡◌, ◌<◌, ◌++◌, List, ℕ, OnOk, length, refl, take, subst, sym, ◌∙◌, arith, rules}
use Rattle.std.specs.List.{flat_map}
use Rattle.std.proofs.lemmas.Bool.Decides.{nat_tests}
use Rattle.script_text.specs.Texts.{byte_text}
use Rattle.script_text.proofs.Appends.{kept_appended}
use Rattle.script_text.proofs.ByteTexts.{text_of-some}
use Rattle.script_text.proofs.Spellings.{spelled_plain}
use Rattle.script_text.proofs.text.append_text.Goals as goal

pub returns-then-are_plain-clause-ok : goal.returns-then-are_plain-clause-ok
returns-then-are_plain-clause-ok c =
    let bytes = c.args.bytes.now in
    let some : 0 < length bytes = grind (arith, nat_tests, c.if-is_empty.ensures) in
    let same = text_of-some bytes some ∙ spelled_plain bytes (c.if-are_plain.ensures.0 refl) in
    subst (λ (t : List ℕ). OnOk c.extend_from_slice.result (c.extend_from_slice.new.self.items ≡ c.args.out.now.items ++ t)) (sym same) (search rules)

pub returns-in_err-append_byte-clause-kept : goal.returns-in_err-append_byte-clause-kept
returns-in_err-append_byte-clause-kept c =
    kept_appended c.args.out.now.items c.loop-byte.out.items c.append_byte.new.out.items (flat_map byte_text (take c.loop-byte.byte-index c.args.bytes.now)) c.loop-byte.invariant c.append_byte.ensures.kept
