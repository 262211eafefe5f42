use Rattle.methods.proofs.SwappedBelow.{swapped_below}
use Rattle.methods.proofs.StatementLaws.{matrix-kept}
use Rattle.statements.proofs.pivot_symmetric.Goals as goal

pub returns-then-max_idx-ne0 : goal.returns-then-max_idx-ne0
returns-then-max_idx-ne0 c =
    let d = c.before.before in
    let b = d.before.before.before.before in
    let w = b.before.before.before.before in
    let f = w.before.before.before.before.before.before in
    let t = f.before.before.before.before in
    swapped_below _ _ _ _ _ _ _ _ t.requires.square t.requires.max_idx_bound f.if-max_idx-ne0.true f.swap_left.ensures (rw (w.cell-then-max_idx-ne0.ensures.0, w.cell.ensures.0) at w.swap.ensures)
    b.swap_between.ensures d.swap_below.ensures

pub returns-else-max_idx-ne0 : goal.returns-else-max_idx-ne0
returns-else-max_idx-ne0 c = matrix-kept _ _ _ _ c.if-max_idx-ne0.false
