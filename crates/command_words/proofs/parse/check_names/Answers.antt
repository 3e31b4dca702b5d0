use Rattle.std.proofs.Common.{◌∙◌, ap, sym, subst, inl, inr}
use Rattle.clap.specs.Words.{App, HasKind, Kinds, fault_of, is_simple_and_free}
use Rattle.command_words.specs.Words.{word_texts}
use Rattle.command_words.proofs.ClapWalk.{clap_takes, is_free}
use Rattle.command_words.proofs.parse.check_names.Goals as goal

pub returns-clause-refused : goal.returns-clause-refused
returns-clause-refused c = λ is command meant.
    let texts = word_texts c.args.words.now in
    let same = c.in_ok-program.ensures in
    let free = ap is_simple_and_free same ∙ is_free in
    let none = ap (λ (a : App). fault_of a texts) same ∙ clap_takes texts command meant in
    let P : Kinds → Type 0 = λ kinds. HasKind kinds c.in-Err.error in
    elim (subst P none (c.in-Err.ensures.kinds free)) [
      | inl memory ↦ c.in_default.not-OutOfMemory (c.kind.ensures ∙ memory)
      | inr among ↦ among
    ]

pub returns-in-Ok-clause-taken : goal.returns-in-Ok-clause-taken
returns-in-Ok-clause-taken c =
    let same = c.in_ok-program.ensures in
    let free = ap is_simple_and_free same ∙ is_free in
    ap (λ (a : App). fault_of a (word_texts c.args.words.now)) (sym same) ∙ c.in-Ok.ensures.kinds free
