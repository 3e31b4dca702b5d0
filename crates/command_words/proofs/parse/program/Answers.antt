use Rattle.std.proofs.Common.{◌<◌, ◌∙◌, fold, take, length, get_or, sym, ap, ap₂}
use Rattle.std.proofs.lemmas.List.{take_more}
use Rattle.std.proofs.lemmas.List.Sums.{fold_push}
use Rattle.clap.specs.Words.{App, with_subcommand}
use Rattle.command_words.specs.declared.table.Verb.TheVariants.{Play}
use Rattle.command_words.specs.Program.{bare_app, verbs, with_verb}
use Rattle.command_words.proofs.parse.program.Goals as goal

pub loop-verb-preserved : goal.loop-verb-preserved
loop-verb-preserved c =
    let i = c.loop-verb.verb-index in
    let here : i < length verbs = c.loop-verb-test.true in
    let sub = ap (λ (a : App). a.top) c.in_ok-subcommand.ensures.app in
    let built = c.in_ok-program.ensures.shape c.in_ok-subcommand.ensures.own ∙ ap₂ with_subcommand c.loop-verb.invariant sub in
    let more = ap (fold with_verb bare_app) (take_more verbs i Play here) ∙ fold_push with_verb bare_app (take i verbs) (get_or verbs i Play) in
    built ∙ sym more
