-- The program as `clap` knows it.
use Rattle.std.specs.Prelude.{List, [], ◌∷◌, Some, true, codes, fold}
use Rattle.clap.specs.Walk.{Rule}
use Rattle.clap.specs.Simple.{App, new_app, new_rule, new_shape, with_rule, with_subcommand}
use Rattle.command_words.specs.declared.table.Verb.{Verb}
use Rattle.command_words.specs.declared.table.Verb.TheVariants.{Play, Dump}
use Rattle.command_words.specs.declared.table.Setting.{Setting}
use Rattle.command_words.specs.Table.{verb_name, settings_of, option_name}

-- an option: a long name, with one value after it
abbrev pub option_rule : Setting → Rule
option_rule setting =
    record (new_rule (option_name setting)) { long = Some (option_name setting) }

abbrev pub with_option : App → Setting → App
with_option app setting = with_rule app (option_rule setting)

-- a command with its options
abbrev pub verb_app : Verb → App
verb_app verb = fold with_option (new_app (verb_name verb)) (settings_of verb)

abbrev pub with_verb : App → Verb → App
with_verb app verb = with_subcommand app (verb_app verb).top

-- no command yet: the folder stands for the program's name, and a command has to follow
abbrev pub bare_app : App
bare_app = record {
  top = record (new_shape (codes "FOLDER")) {
    subcommand_required = true;
    disable_help_flag = true;
    disable_help_subcommand = true;
  };
  subs = [];
}

-- every command that is built
abbrev pub verbs : List Verb
verbs = Play ∷ Dump ∷ []

abbrev pub program_app : App
program_app = fold with_verb bare_app verbs
