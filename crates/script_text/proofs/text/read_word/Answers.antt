use Rattle.std.proofs.Common.{length, ap, ◌∙◌, arith}
use Rattle.std.proofs.lemmas.Bool.{false≢true}
use Rattle.script_text.specs.Fields.{bytes_of}
use Rattle.script_text.proofs.ByteTexts.{bytes_of-text_of}
use Rattle.script_text.proofs.Spellings.{text_none, text_some}
use Rattle.script_text.proofs.text.read_word.Goals as goal
use Rattle.script_text.proofs.text.read_word.Goals.{else-length-gt0-via-then-length-gt0+else-length-limit, else-length-gt0-via-else-length-gt0}

pub returns-in_err-length-clause-none : goal.returns-in_err-length-clause-none
returns-in_err-length-clause-none c = rw c.from_residual.ensures (λ bytes kept e.
    text_none c.args.field.now bytes (λ lone. false≢true (c.if-is_lone_percent.ensures.1 lone)) c.in_err-length.ensures.none kept.each e)

pub returns-else-length-gt0-clause-none : goal.returns-else-length-gt0-clause-none
returns-else-length-gt0-clause-none c = λ bytes kept e.
    let some = text_some c.args.field.now bytes (λ lone. false≢true (c.if-is_lone_percent.ensures.1 lone)) e in
    let same = ap length (ap bytes_of e ∙ bytes_of-text_of bytes kept.each) in
    let counted = c.in_ok-length.ensures.found.2 in
    elim c.else-length-gt0.branch [
      | else-length-gt0-via-then-length-gt0+else-length-limit w ↦ omega (arith, w.if-length-limit.false, kept.short, same, counted)
      | else-length-gt0-via-else-length-gt0 w ↦ omega (arith, w.if-length-gt0.false, some, same, counted)
    ]
