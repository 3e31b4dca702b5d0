use Rattle.std.proofs.Common.{◌++◌, ◌∷◌, decimal}
use Rattle.script_text.specs.Texts.{text_of}
use Rattle.script_text.proofs.Cuts.{cut_none, IsCut-one}
use Rattle.script_text.proofs.Numbers.{decimal_lacks_space, text_lacks_space}
use Rattle.script_text.proofs.read.read_put.Goals as goal

pub returns-in_err-field-clause-none : goal.returns-in_err-field-clause-none
returns-in_err-field-clause-none c = rw c.from_residual.ensures (λ prefix key value text.
    cut_none 32 c.args.arguments.now (decimal prefix) (text_of key ++ 32 ∷ text_of value) c.in_err-field.ensures.whole text.text)

pub returns-in_err-prefix-clause-none : goal.returns-in_err-prefix-clause-none
returns-in_err-prefix-clause-none c = rw c.from_residual-in_err-prefix.ensures (λ prefix key value text.
    let parts = IsCut-one 32 c.args.arguments.now c.in_ok-field.field.now c.in_ok-field.words.now (decimal prefix) (text_of key ++ 32 ∷ text_of value) c.in_ok-field.ensures.cut (decimal_lacks_space prefix text.fits) text.text in
    c.in_err-prefix.ensures.none prefix text.fits parts.0)

pub returns-in_err-key_text-clause-none : goal.returns-in_err-key_text-clause-none
returns-in_err-key_text-clause-none c = rw c.from_residual-in_err-key_text.ensures (λ prefix key value text.
    let parts = IsCut-one 32 c.args.arguments.now c.in_ok-field.field.now c.in_ok-field.words.now (decimal prefix) (text_of key ++ 32 ∷ text_of value) c.in_ok-field.ensures.cut (decimal_lacks_space prefix text.fits) text.text in
    cut_none 32 c.in_ok-field.words.now (text_of key) (text_of value) c.in_err-key_text.ensures.whole parts.1)

pub returns-in_err-key-clause-none : goal.returns-in_err-key-clause-none
returns-in_err-key-clause-none c = rw c.from_residual-in_err-key.ensures (λ prefix key value text.
    let parts = IsCut-one 32 c.args.arguments.now c.in_ok-field.field.now c.in_ok-field.words.now (decimal prefix) (text_of key ++ 32 ∷ text_of value) c.in_ok-field.ensures.cut (decimal_lacks_space prefix text.fits) text.text in
    let words = IsCut-one 32 c.in_ok-field.words.now c.in_ok-key_text.key_text.now c.in_ok-key_text.value_text.now (text_of key) (text_of value) c.in_ok-key_text.ensures.cut (text_lacks_space key) parts.1 in
    c.in_err-key.ensures.none key text.key_kept words.0)

pub returns-in_err-value-clause-none : goal.returns-in_err-value-clause-none
returns-in_err-value-clause-none c = rw c.from_residual-in_err-value.ensures (λ prefix key value text.
    let parts = IsCut-one 32 c.args.arguments.now c.in_ok-field.field.now c.in_ok-field.words.now (decimal prefix) (text_of key ++ 32 ∷ text_of value) c.in_ok-field.ensures.cut (decimal_lacks_space prefix text.fits) text.text in
    let words = IsCut-one 32 c.in_ok-field.words.now c.in_ok-key_text.key_text.now c.in_ok-key_text.value_text.now (text_of key) (text_of value) c.in_ok-key_text.ensures.cut (text_lacks_space key) parts.1 in
    c.in_err-value.ensures.none value text.value_kept words.1)
