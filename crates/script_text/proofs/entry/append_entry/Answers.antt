use Rattle.std.proofs.Common.{◌++◌, codes, decimal}
use Rattle.script_text.specs.Texts.{text_of}
use Rattle.script_text.proofs.Appends.{more_appended, word_appended}
use Rattle.script_text.proofs.entry.append_entry.Goals as goal

pub returns-clause-ok : goal.returns-clause-ok
returns-clause-ok c =
    let old = c.args.out.now.items in
    let numbers = decimal c.args.p.0 ++ codes " " ++ decimal c.args.prefix in
    let key = text_of c.args.key.now in
    let value = text_of c.args.value.now in
    let to_number = more_appended old c.append_head.new.out.items c.append_number.new.out.items (decimal c.args.p.0 ++ codes " ") (decimal c.args.prefix) c.in_ok-append_head.ensures.ok c.in_ok-append_number.ensures.ok in
    let to_key = word_appended old c.append_number.new.out.items c.append_word.new.out.items numbers key to_number c.in_ok-append_word.ensures.ok in
    let to_value = word_appended old c.append_word.new.out.items c.append_word-2.new.out.items (numbers ++ codes " " ++ key) value to_key c.in_ok-append_word-2.ensures.ok in
    more_appended old c.append_word-2.new.out.items c.push.new.self.items (numbers ++ codes " " ++ key ++ codes " " ++ value) (codes "\n") to_value c.in_ok-push.ensures.items
