use Rattle.std.proofs.Common.{◌≤◌, ◌^◌, List, ℕ, Err, refl, ap, subst, arith}
use Rattle.script_text.specs.declared.script.ScriptRefusal.TheVariants as refusal
use Rattle.script_text.specs.Lines.{IsFirstBad, IsScript}
use Rattle.script_text.specs.Scripts.{script_lines}
use Rattle.script_text.proofs.Readings.{bad_or_script, one_first_bad}
use Rattle.script_text.proofs.Scanned.{script_lines-one}
use Rattle.script_text.proofs.script.read_script.Goals as goal

pub returns-in-None-clause-all : goal.returns-in-None-clause-all
returns-in-None-clause-all c = λ lines reads.
    let few : c.args.partitions ≤ 2 ^ 64 = omega (arith, c.requires.few) in
    (script_lines-one c.args.mode c.args.partitions c.args.bytes.items lines few reads, refl)

pub returns-in-None-clause-first : goal.returns-in-None-clause-first
returns-in-None-clause-first c = λ number bad.
    let reads = subst (λ (bytes : List ℕ). IsScript c.args.mode c.args.partitions bytes (script_lines bytes)) c.as_slice.ensures.value c.in-None.ensures.none in
    absurd (bad_or_script c.args.mode c.args.partitions c.args.bytes.items (script_lines c.args.bytes.items) number reads bad)

pub returns-in-Some-clause-all : goal.returns-in-Some-clause-all
returns-in-Some-clause-all c = λ lines reads.
    let bad = subst (λ (bytes : List ℕ). IsFirstBad c.args.mode c.args.partitions bytes c.in-Some.number) c.as_slice.ensures.value c.in-Some.ensures.bad in
    absurd (bad_or_script c.args.mode c.args.partitions c.args.bytes.items lines c.in-Some.number reads bad)

pub returns-in-Some-clause-first : goal.returns-in-Some-clause-first
returns-in-Some-clause-first c = λ number other.
    let bad = subst (λ (bytes : List ℕ). IsFirstBad c.args.mode c.args.partitions bytes c.in-Some.number) c.as_slice.ensures.value c.in-Some.ensures.bad in
    ap (λ (n : ℕ). Err (refusal.Line n)) (one_first_bad c.args.mode c.args.partitions c.args.bytes.items c.in-Some.number number bad other)
