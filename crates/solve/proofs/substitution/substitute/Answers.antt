use mathlib.Core.Path.{sym}
use Rattle.std.proofs.lemmas.Result.{err_from_is_err_and}
use Rattle.solve.proofs.SolveLaws.{backward_stays}
use Rattle.solve.proofs.substitution.substitute.Goals as goal

pub returns-in_err-forward : goal.returns-in_err-forward
returns-in_err-forward c =
    let p = err_from_is_err_and c.from_residual.result c.from_residual.ensures.1 in
    rw (p.1, p.2, ← c.forward.ensures, c.in_err-forward.was) (sym (backward_stays _ _ _ _))
