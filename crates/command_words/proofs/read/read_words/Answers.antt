use Rattle.std.proofs.Common.{◌≡◌, ◌∙◌, Result, Ok, Err, sym, ap}
use Rattle.std.specs.Result.{IsErrAnd, IsErrOf}
use Rattle.command_words.specs.declared.parse.WordsRefusal.TheVariants.{Words}
use Rattle.command_words.proofs.read.read_words.Goals as goal

-- an error that was handed on is the one that came
carried : {T E : Type 0} (r : Result T E) (e w : E) → IsErrAnd r (λ y. y ≡ e) → IsErrOf r w → e ≡ w
carried (Ok x) e w came is = cc
carried (Err y) e w came is = let same : y ≡ w = cc in sym came ∙ same

pub returns-in_err-check_names-clause-refused : goal.returns-in_err-check_names-clause-refused
returns-in_err-check_names-clause-refused c = λ is.
    let same = carried c.from_residual.result c.in_err-check_names.field-0.0 Words c.from_residual.ensures.1 is in
    c.in_err-check_names.ensures.refused (ap Err same)
