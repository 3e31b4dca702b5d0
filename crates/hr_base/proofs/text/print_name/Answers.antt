use Rattle.std.proofs.Common.{ap, ◌∙◌, ◌+◌, ◌/◌, ◌%◌}
use Rattle.hr_base.specs.Names.{name_text, letter_of_kind}
use Rattle.hr_base.proofs.NameTexts.{framed}
use Rattle.hr_base.proofs.text.print_name.Goals as goal

pub returns : goal.returns
unfolding name_text
returns c =
    let partition = c.args.name.partition.0 in
    ap (λ letter. framed (48 + partition / 10) (48 + partition % 10) letter c.print_hex.new.digits) c.letter_of.ensures
    ∙ ap (λ digits. framed (48 + partition / 10) (48 + partition % 10) (letter_of_kind c.args.name.kind) digits) c.print_hex.ensures
