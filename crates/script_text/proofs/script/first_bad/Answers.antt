use Rattle.std.proofs.Common.{◌≡◌, ◌+◌, ◌≤◌, ◌^◌, ◌∷◌, ◌++◌, [], ℕ, List, All, length, refl, arith, sym, ap}
use Rattle.std.proofs.lemmas.Bool.{eqb-true}
use Rattle.std.proofs.lemmas.List.{length_push}
use Rattle.std.proofs.lemmas.List.Elements.{All-push}
use Rattle.script_text.specs.declared.line.Line.{Line}
use Rattle.script_text.specs.Fields.{line_of}
use Rattle.script_text.specs.Lines.{IsLine}
use Rattle.script_text.proofs.Scanned.{script_lines-read}
use Rattle.script_text.proofs.Steps.{first_bad, one_more, whole_script}
use Rattle.script_text.proofs.script.first_bad.Goals as goal

-- all texts are those of lines
pub returns-clause-none : goal.returns-clause-none
returns-clause-none c =
    let before = c.loop-rest.invariant in
    let few : c.args.partitions ≤ 2 ^ 64 = omega (arith, c.requires.few) in
    script_lines-read c.args.mode c.args.partitions c.args.bytes.now before.0 few
    (whole_script c.args.mode c.args.partitions c.args.bytes.now c.loop-rest.rest.now before.0 before.1 before.2 (eqb-true (length c.loop-rest.rest.now) 0 (sym c.loop-rest-test.ensures)))

-- the text that was refused is the first that is none
pub returns-in_default-clause-bad : goal.returns-in_default-clause-bad
returns-in_default-clause-bad c =
    let before = c.loop-rest.invariant in
    first_bad c.args.mode c.args.partitions c.args.bytes.now c.loop-rest.rest.now c.first_text.result.0.now c.first_text.result.1.now before.0 (c.loop-rest.number + 1) before.1 before.2 c.first_text.ensures.split c.in_default.ensures.none (omega (arith, before.3))

pub loop-rest-preserved : goal.loop-rest-preserved
loop-rest-preserved c =
    let before = c.loop-rest.invariant in
    let line : Line = line_of c.in-Some._line in
    let found = c.in-Some.ensures.found in (
      before.0 ++ line ∷ [],
      All-push (IsLine c.args.mode c.args.partitions) before.0 line before.1 found.1,
      one_more c.args.bytes.now c.loop-rest.rest.now c.first_text.result.0.now c.first_text.result.1.now before.0 line before.2 c.first_text.ensures.split found.2,
      omega (arith, length_push before.0 line, before.3),
      omega (arith, c.first_text.ensures.shorter, before.4),
    )
