-- What the program comes to at a refusal.
use Rattle.command_words.specs.declared.parse.WordsRefusal.{WordsRefusal}
use Rattle.command_words.specs.declared.parse.WordsRefusal.TheVariants as words
use Rattle.script_text.specs.declared.script.ScriptRefusal.{ScriptRefusal}
use Rattle.script_text.specs.declared.script.ScriptRefusal.TheVariants as script
use Rattle.restart_load.specs.declared.ended.Ended.TheVariants.{Memory}
use Rattle.hr_edges.specs.declared.reading.InputRefusal.{InputRefusal}
use Rattle.hr_edges.specs.declared.reading.InputRefusal.TheVariants as input
use Rattle.store_serve.specs.declared.outcome.Outcome.{Outcome}
use Rattle.store_serve.specs.declared.outcome.Outcome.TheVariants.{Words, TooLong, BadLine, Input, Ended}

-- where the words were not read
abbrev pub outcome_of_words : WordsRefusal → Outcome
outcome_of_words words.Memory = Ended Memory
outcome_of_words words.Words = Words

-- where the input could not be read
abbrev pub outcome_of_input : InputRefusal → Outcome
outcome_of_input input.Memory = Ended Memory
outcome_of_input input.TooLong = TooLong
outcome_of_input input.Failed = Input

-- where it is no script
abbrev pub outcome_of_script : ScriptRefusal → Outcome
outcome_of_script script.Memory = Ended Memory
outcome_of_script (script.Line number) = BadLine number
