use mathlib.Core.Path.{refl}
use mathlib.Core.Bool.{◌&&◌}
use Prim.Native.Nat.{◌+◌}
use native.Mathlib.Omega.{arith}
use lib.ListN.{get_or}
use lib.Ieee.{Float, nan}
use Rattle.arithmetic.specs.Double.{◌⊖◌, ◌⊗◌}
use Rattle.methods.specs.Elimination.{subtracted}
use Rattle.methods.proofs.Rows.{cells_start, cells_turn, cells_end}
use Rattle.statements.proofs.subtract_multiple.Goals as goal

pub loop-k-init : goal.loop-k-init
loop-k-init c = cells_start _ _ _ _ _ _ c.requires.square.len

pub loop-k-preserved : goal.loop-k-preserved
loop-k-preserved c =
    let l = c.loop-k in
    let a = c.args in
    let q = c.cell-ik in
    let op : Float → Float = λ z. z ⊖ get_or a.column.now a.i nan ⊗ get_or a.column.now l.k nan in
    (cells_turn a.n (a.j + 1) (λ y. a.i) (λ y. y) (subtracted a.n a.l.now a.column.now a.i) a.l.now (λ y z u w. w) l.k (omega arith) (omega arith) (λ y p. omega arith) q.result l.l op l.ok (l.ok && c.finite-ok.result) q.ensures.0 refl l.invariant (rw c.finite-ok.ensures)).1

pub returns : goal.returns
returns c = cells_end _ _ _ _ _ _ _ _ _ _ (omega arith) (omega arith) c.loop-k.invariant
