-- What is a script is refused for none of its lines.
use Rattle.std.specs.Prelude.{ℕ, List, Option, Some, None}
use Rattle.std.proofs.Common.{arith, inl, inr}
use Rattle.hr_base.specs.declared.limits.TheConstants.{MAX_SCRIPT_LEN}
use Rattle.hr_edges.specs.Edges.{ReadsTooMuch}
use Rattle.hr_edges.proofs.Readings.{ReadsTooMuch-all}
use Rattle.script_text.specs.declared.line.Line.{Line}
use Rattle.script_text.specs.declared.line.Mode.TheVariants.{Play}
use Rattle.script_text.proofs.Readings.{bad_or_script}
use Rattle.store_serve.specs.Scripts.{IsScriptOf, IsBadAt, IsFit, IsTooLong, IsUnfit}

pub bad_or_script_of : (partitions : ℕ) (bytes : List ℕ) (lines : List Line) (number : ℕ) → IsBadAt partitions (Some bytes) number → IsScriptOf partitions (Some bytes) lines → ⊥
bad_or_script_of partitions bytes lines number bad script = bad_or_script Play partitions bytes lines number script.1 bad.1

pub too_long_for_script : (partitions : ℕ) (bytes : List ℕ) (left : Option (List ℕ)) (lines : List Line) → ReadsTooMuch MAX_SCRIPT_LEN bytes left → IsScriptOf partitions (Some bytes) lines → ⊥
too_long_for_script partitions bytes left lines long script = omega (arith, ReadsTooMuch-all MAX_SCRIPT_LEN bytes left long, script.0)

-- what is no script has no lines
pub unfit_script : (partitions : ℕ) (left : Option (List ℕ)) (lines : List Line) → IsUnfit partitions left → IsScriptOf partitions left lines → ⊥
unfit_script partitions None lines unfit script = unfit
unfit_script partitions (Some bytes) lines unfit script =
    elim unfit [ inl long ↦ omega (arith, long, script.0) | inr bad ↦ bad_or_script_of partitions bytes lines bad.0 bad.1 script ]

-- and what is one is not too long, and has no first bad line
pub fit_not_long : (partitions : ℕ) (left rest : Option (List ℕ)) → IsFit partitions left → IsTooLong left rest → ⊥
fit_not_long partitions None rest fit long = fit
fit_not_long partitions (Some bytes) rest fit long = too_long_for_script partitions bytes rest fit.0 long fit.1

pub fit_not_bad : (partitions : ℕ) (left : Option (List ℕ)) (number : ℕ) → IsFit partitions left → IsBadAt partitions left number → ⊥
fit_not_bad partitions None number fit bad = fit
fit_not_bad partitions (Some bytes) number fit bad = bad_or_script_of partitions bytes fit.0 number bad fit.1
