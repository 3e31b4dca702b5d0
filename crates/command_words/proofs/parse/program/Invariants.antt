use Rattle.std.proofs.Common.{◌≡◌, fold, take}
use Rattle.clap.specs.Words.{app_of}
use Rattle.command_words.specs.Program.{bare_app, with_verb}
use Rattle.command_words.proofs.parse.program.Given as goal

abbrev pub invariant-loop-verb : goal.invariant-loop-verb
invariant-loop-verb l = app_of l.program ≡ fold with_verb bare_app (take l.verb-index l.verb-items)
