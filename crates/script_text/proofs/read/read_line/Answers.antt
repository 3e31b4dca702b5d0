use Rattle.std.proofs.Common.{◌<◌, ◌^◌, decimal, subst, sym, ◌∙◌, arith, Option, Some, None, IfNone}
use Rattle.script_text.specs.Fields.{IsCommandText}
use Rattle.script_text.specs.Lines.{partition_of}
use Rattle.script_text.proofs.CommandTexts.{command_text, line_text-split, IsLine-partition, IsCommandText-line}
use Rattle.script_text.proofs.Cuts.{cut_none, IsCut-one}
use Rattle.script_text.proofs.Numbers.{decimal_lacks_space}
use Rattle.script_text.proofs.read.read_line.Goals as goal

if_none_weaker : {A P Q : Type 0} (r : Option A) → (P → Q) → IfNone r P → IfNone r Q
if_none_weaker None f h = f h
if_none_weaker (Some x) f h = tt

pub returns-in_err-field-clause-none : goal.returns-in_err-field-clause-none
returns-in_err-field-clause-none c = rw c.from_residual.ensures (λ line valid e.
    cut_none 32 c.args.text.now (decimal (partition_of line)) (command_text line) c.in_err-field.ensures.whole (e ∙ line_text-split line))

pub returns-in_err-p-clause-none : goal.returns-in_err-p-clause-none
returns-in_err-p-clause-none c = rw c.from_residual-in_err-p.ensures (λ line valid e.
    let below = IsLine-partition c.args.mode c.args.partitions line valid in
    let fits : partition_of line < 2 ^ 64 = omega (arith, below, c.ranges.partitions) in
    let parts = IsCut-one 32 c.args.text.now c.in_ok-field.field.now c.in_ok-field.command.now (decimal (partition_of line)) (command_text line) c.in_ok-field.ensures.cut (decimal_lacks_space (partition_of line) fits) (e ∙ line_text-split line) in
    c.in_err-p.ensures.none (partition_of line) below parts.0)

pub returns-clause-none : goal.returns-clause-none
returns-clause-none c =
    if_none_weaker c.read_command.result (λ none line valid e.
    let fits : partition_of line < 2 ^ 64 = omega (arith, IsLine-partition c.args.mode c.args.partitions line valid, c.ranges.partitions) in
    let parts = IsCut-one 32 c.args.text.now c.in_ok-field.field.now c.in_ok-field.command.now (decimal (partition_of line)) (command_text line) c.in_ok-field.ensures.cut (decimal_lacks_space (partition_of line) fits) (e ∙ line_text-split line) in
    none line (subst (λ bytes. IsCommandText bytes line) (sym parts.1) (IsCommandText-line c.args.mode c.args.partitions line valid))) c.read_command.ensures.none
