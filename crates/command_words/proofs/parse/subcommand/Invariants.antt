use Rattle.std.proofs.Common.{◌≡◌, false, fold, take}
use Rattle.clap.specs.Words.{app_of, new_app}
use Rattle.clap.specs.declared.builder.command.Command.TheViews.{out-Command as fields_of}
use Rattle.command_words.specs.Program.{with_option}
use Rattle.command_words.specs.Table.{verb_name}
use Rattle.command_words.proofs.parse.subcommand.Given as goal

abbrev pub invariant-loop-setting : goal.invariant-loop-setting
invariant-loop-setting l =
    (app_of l.command ≡ fold with_option (new_app (verb_name l.fn.verb)) (take l.setting-index l.setting-items))
    × ((fields_of l.command).has_globals ≡ false)
