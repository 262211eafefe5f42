use Rattle.matrix.proofs.CheckLaws.{passed}
use Rattle.solve.proofs.SolveLaws.{call-operands}
use Rattle.solve.proofs.substitution.solve.Goals as goal

pub solve_unchecked-requires-clause-solvable : goal.solve_unchecked-requires-clause-solvable
solve_unchecked-requires-clause-solvable c =
    let a = c.args in
    (call-operands a.n a.l.now a.p.now a.b.now _ (passed c.solve_checks.ensures c.in_ok-solve_checks.was)).0
