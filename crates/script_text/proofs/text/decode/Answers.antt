use Rattle.std.proofs.Common.{◌++◌, List, ℕ, ap, ◌∙◌, arith}
use Rattle.script_text.specs.Fields.{word_bytes}
use Rattle.script_text.proofs.Spellings.{text_same}
use Rattle.script_text.proofs.text.decode.Goals as goal

pub returns-in-Ok-clause-bytes : goal.returns-in-Ok-clause-bytes
returns-in-Ok-clause-bytes c =
    let text = c.args.word.text.now in
    let same = text_same text (word_bytes c.args.word) c.requires.word.spelled (omega (arith, c.requires.word.counted)) in
    c.in-Ok.ensures.items ∙ ap (λ (bytes : List ℕ). bytes ++ text) c.clear.ensures.items ∙ same
