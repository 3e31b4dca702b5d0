use Rattle.std.proofs.Common.{◌<◌, ◌||◌, ◌∙◌, Bool, fold, take, length, get_or, sym, ap, ap₂, arith}
use Rattle.std.proofs.lemmas.List.{take_more}
use Rattle.std.proofs.lemmas.List.Sums.{fold_push}
use Rattle.clap.specs.Words.{App, new_app, with_rule}
use Rattle.command_words.specs.declared.table.Setting.TheVariants.{Partitions}
use Rattle.command_words.specs.Program.{with_option}
use Rattle.command_words.specs.Table.{verb_name}
use Rattle.command_words.proofs.parse.subcommand.Goals as goal

pub loop-setting-preserved : goal.loop-setting-preserved
loop-setting-preserved c =
    let xs = c.row-row.result.settings.now in
    let i = c.loop-setting.setting-index in
    let here : i < length xs = omega arith in
    let adds = c.in_ok-command.ensures in
    let bare : App = new_app (verb_name c.args.verb) in
    let built = adds.shape c.option.ensures.own ∙ ap₂ with_rule c.loop-setting.invariant.0 c.option.ensures.rule in
    let more = ap (fold with_option bare) (take_more xs i Partitions here) ∙ fold_push with_option bare (take i xs) (get_or xs i Partitions) in
    (built ∙ sym more, adds.globals ∙ ap₂ (λ (a b : Bool). a || b) c.loop-setting.invariant.1 c.option.ensures.own)
