use mathlib.Core.Path.{refl}
use native.Mathlib.Omega.{arith}
use Rattle.methods.proofs.Rows.{rows_start, rows_more}
use Rattle.statements.proofs.eliminate_rows.Goals as goal

pub loop-i-init : goal.loop-i-init
loop-i-init c = rows_start _ _ _ _ c.requires.square.len

pub loop-i-preserved : goal.loop-i-preserved
loop-i-preserved c =
    let l = c.loop-i in
    rows_more _ _ _ _ l.i l.l _ l.ok (omega arith) (omega arith) l.invariant _ _ c.subtract_multiple-ok.ensures refl
