use borrow.Author.Rules.{rules}
use native.Mathlib.Omega.{arith}
use Rattle.methods.specs.Se.{phase_one_step}
use Rattle.methods.proofs.Mirrored.{leaves_before-mirrored, diagonal-mirrored}
use Rattle.methods.proofs.Pivots.{length-diagonal, picked_below}
use Rattle.phase_one.proofs.phase_one_step.Goals as goal

pub returns-then-leaves_before : goal.returns-then-leaves_before
unfolding phase_one_step
returns-then-leaves_before c =
    let a = c.args in
    let t = leaves_before-mirrored a.n a.l.now a.params.now.variant a.params.now.tolerances a.params.now.gamma a.j (omega arith) in
    λ e g. rw (t, ← c.leaves_before.ensures, c.if-leaves_before.true, c.left.ensures)

pub step_at-requires-clause-p_len : goal.step_at-requires-clause-p_len
step_at-requires-clause-p_len c = (search rules, picked_below _ _ _ _ _ _ _ c.search_diagonal-f.ensures (length-diagonal _ _) (omega arith), search rules)

pub returns : goal.returns
unfolding phase_one_step
returns c =
    let a = c.args in
    let t = leaves_before-mirrored a.n a.l.now a.params.now.variant a.params.now.tolerances a.params.now.gamma a.j (omega arith) in
    λ e g. rw (t, ← c.leaves_before.ensures, c.if-leaves_before.false, diagonal-mirrored a.n a.l.now) (rw c.search_diagonal-f.ensures at (c.step_at.ensures e g))
