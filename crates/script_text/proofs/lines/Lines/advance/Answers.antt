use Rattle.std.proofs.Common.{◌≤◌, ◌^◌, ◌∷◌, sym, ap, ◌∙◌, arith}
use Rattle.script_text.specs.declared.line.Line.{Line}
use Rattle.script_text.specs.Fields.{line_of}
use Rattle.script_text.specs.Scripts.{left, script_lines}
use Rattle.script_text.proofs.Scanned.{rest_is_script, script_lines-first}
use Rattle.script_text.proofs.lines.Lines.advance.Goals as goal

pub invariant_of-self : goal.invariant_of-self
invariant_of-self c =
    let few : c.self.inside.partitions ≤ 2 ^ 64 = omega (arith, c.self.ranges) in (
      rest_is_script c.self.inside.mode c.self.inside.partitions c.self.inside.rest.now c.first_text.result.0.now c.first_text.result.1.now (script_lines c.self.inside.rest.now) few c.self.invariant.0 c.first_text.ensures.split,
      c.keep-self-inside.ensures.key,
      c.keep-self-inside.ensures.value,
    )

pub returns-clause-more : goal.returns-clause-more
returns-clause-more c = λ _.
    let few : c.self.inside.partitions ≤ 2 ^ 64 = omega (arith, c.self.ranges) in
    let found = c.in-Some.ensures.found in
    sym (ap left c.self.view_is)
    ∙ script_lines-first c.self.inside.mode c.self.inside.partitions c.self.inside.rest.now c.first_text.result.0.now c.first_text.result.1.now (line_of c.in-Some.line) few found.1 c.first_text.ensures.split found.2
    ∙ ap (λ (line : Line). line ∷ script_lines c.first_text.result.1.now) (sym c.keep-self-inside.ensures.line)
