use native.Mathlib.Omega.{arith}
use Rattle.methods.specs.Se.{pivot, step_at}
use Rattle.methods.proofs.Mirrored.{leaves_after-mirrored}
use Rattle.phase_one.proofs.step_at.Goals as goal

pub returns-then-leaves_after : goal.returns-then-leaves_after
unfolding step_at pivot
returns-then-leaves_after c =
    let a = c.args in
    let b = c.pivot.ensures in
    let t = leaves_after-mirrored a.n c.pivot.new.l a.params.now.variant a.params.now.tolerances a.params.now.gamma a.j (omega arith) in
    λ e g. rw (← b.0, ← b.1, t, ← c.leaves_after.ensures, c.if-leaves_after.true, c.left.ensures, c.searched-pivoted.ensures)

pub returns : goal.returns
unfolding step_at pivot
returns c =
    let a = c.args in
    let b = c.pivot.ensures in
    let t = leaves_after-mirrored a.n c.pivot.new.l a.params.now.variant a.params.now.tolerances a.params.now.gamma a.j (omega arith) in
    λ e g. rw (← b.0, ← b.1, t, ← c.leaves_after.ensures, c.if-leaves_after.false) (rw c.searched-pivoted.ensures at (c.factorize.ensures e g c.pivot.new.p))
