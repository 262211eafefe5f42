use Rattle.solve.proofs.SolveLaws.{forward-row_goes}
use Rattle.solve.proofs.substitution.forward_row.Goals as goal

pub returns : goal.returns
returns c =
    let a = c.args in
    forward-row_goes a.n a.l.now a.t a.z.now c.get.ensures a.p.now a.b.now c.forward_sum.ensures c.store.ensures
