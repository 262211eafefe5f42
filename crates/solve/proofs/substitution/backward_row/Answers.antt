use Rattle.solve.proofs.SolveLaws.{backward-row_goes}
use Rattle.solve.proofs.substitution.backward_row.Goals as goal

pub returns : goal.returns
returns c =
    let a = c.args in
    backward-row_goes a.n a.l.now a.t a.w.now c.get.ensures c.backward_sum.ensures c.store.ensures
