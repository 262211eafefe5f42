use mathlib.Core.Path.{refl}
use mathlib.Core.Bool.{◌&&◌}
use Prim.Native.Nat.{ℕ, ◌+◌}
use native.Mathlib.Omega.{arith}
use lib.Ieee.{Float, nan}
use Rattle.arithmetic.specs.Double.{◌⊘◌}
use Rattle.matrix.specs.Matrix.{at}
use Rattle.matrix.proofs.Filled.{written-more}
use Rattle.methods.proofs.Rows.{cells_start, cells_turn, cells_end}
use Rattle.statements.proofs.divide_column.Goals as goal

pub loop-i-init : goal.loop-i-init
loop-i-init c = (cells_start _ _ _ _ _ _ c.requires.square.len, λ x p q. absurd (omega arith))

pub loop-i-preserved : goal.loop-i-preserved
loop-i-preserved c =
    let l = c.loop-i in
    let a = c.args in
    let q = c.cell-ij in
    let f : ℕ → Float = λ x. at a.n a.l.now x a.j ⊘ a.r in
    let T = cells_turn a.n (a.j + 1) (λ x. x) (λ x. a.j) f a.l.now (λ x y u w. u) l.i (omega arith) (omega arith) (λ x p. omega arith) q.result l.l (λ z. z ⊘ a.r) l.ok (l.ok && c.finite-ok.result) q.ensures.0 refl l.invariant.0 (rw c.finite-ok.ensures) in
    (T.1, written-more nan f (a.j + 1) l.i l.column _ (omega arith) T.0 l.invariant.1)

pub returns : goal.returns
returns c =
    let l = c.loop-i in
    (cells_end _ _ _ _ _ _ _ _ _ _ (omega arith) (omega arith) l.invariant.0, λ x p q. l.invariant.1 x p (omega arith))
