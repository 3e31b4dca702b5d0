use Rattle.std.proofs.Common.{decimal}
use Rattle.script_text.specs.Texts.{text_of}
use Rattle.script_text.proofs.Cuts.{cut_none, IsCut-one}
use Rattle.script_text.proofs.Numbers.{decimal_lacks_space}
use Rattle.script_text.proofs.read.read_key.Goals as goal

pub returns-in_err-field-clause-none : goal.returns-in_err-field-clause-none
returns-in_err-field-clause-none c = rw c.from_residual.ensures (λ prefix key text.
    cut_none 32 c.args.arguments.now (decimal prefix) (text_of key) c.in_err-field.ensures.whole text.text)

pub returns-in_err-prefix-clause-none : goal.returns-in_err-prefix-clause-none
returns-in_err-prefix-clause-none c = rw c.from_residual-in_err-prefix.ensures (λ prefix key text.
    let parts = IsCut-one 32 c.args.arguments.now c.in_ok-field.field.now c.in_ok-field.key_text.now (decimal prefix) (text_of key) c.in_ok-field.ensures.cut (decimal_lacks_space prefix text.fits) text.text in
    c.in_err-prefix.ensures.none prefix text.fits parts.0)

pub returns-in_err-key-clause-none : goal.returns-in_err-key-clause-none
returns-in_err-key-clause-none c = rw c.from_residual-in_err-key.ensures (λ prefix key text.
    let parts = IsCut-one 32 c.args.arguments.now c.in_ok-field.field.now c.in_ok-field.key_text.now (decimal prefix) (text_of key) c.in_ok-field.ensures.cut (decimal_lacks_space prefix text.fits) text.text in
    c.in_err-key.ensures.none key text.key_kept parts.1)
