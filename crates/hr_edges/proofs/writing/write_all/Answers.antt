use Rattle.std.proofs.lemmas.Result.{err_from_is_err_and}
use Rattle.hr_edges.proofs.Writings.{torn_none, written_torn}
use Rattle.hr_edges.proofs.writing.write_all.Goals as goal

pub returns-in_err-taken-clause-err : goal.returns-in_err-taken-clause-err
returns-in_err-taken-clause-err g c =
    let p = err_from_is_err_and c.from_residual.result c.from_residual.ensures.1 in
    rw p.1 (written_torn _ _ _ _ _ c.loop-rest.invariant.written c.in_err-taken.ensures.refused)

pub returns-then-taken-eq0-clause-err : goal.returns-then-taken-eq0-clause-err
returns-then-taken-eq0-clause-err g c = written_torn _ _ _ _ _ c.loop-rest.invariant.written (torn_none _ _ _ _ c.in_ok-taken.ensures.appended)
