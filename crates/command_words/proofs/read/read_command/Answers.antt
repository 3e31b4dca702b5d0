use Rattle.std.proofs.Common.{length, take, drop, ◌-◌}
use Rattle.command_words.specs.Words.{word_texts}
use Rattle.command_words.proofs.Words.{limits_fit}
use Rattle.command_words.proofs.read.read_command.Goals as goal

pub returns-in-Play-clause-ranges : goal.returns-in-Play-clause-ranges
returns-in-Play-clause-ranges c =
    limits_fit c.in_ok-verb.verb (word_texts (take (length c.args.words.now - 2) (drop 2 c.args.words.now))) c.in_ok-limits.limits c.in_ok-limits.ensures.found

pub returns-in-Dump-clause-ranges : goal.returns-in-Dump-clause-ranges
returns-in-Dump-clause-ranges c =
    limits_fit c.in_ok-verb.verb (word_texts (take (length c.args.words.now - 2) (drop 2 c.args.words.now))) c.in_ok-limits.limits c.in_ok-limits.ensures.found
