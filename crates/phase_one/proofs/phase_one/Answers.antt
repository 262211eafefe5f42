use borrow.Author.Rules.{rules}
use mathlib.Core.Path.{sym, ap, ◌∙◌}
use mathlib.Core.List.{[]}
use Prim.Native.Nat.{zero-le}
use native.Mathlib.Omega.{arith}
use Rattle.arithmetic.proofs.LoopLaws.{loop_start, loop_turn, loop_end, loop_rest}
use Rattle.methods.specs.Elimination.{mirrored}
use Rattle.methods.specs.Se.{Run, state}
use Rattle.methods.proofs.Counts.{phase_one_left}
use Rattle.methods.proofs.SeLaws.{phase_one-is}
use Rattle.methods.proofs.Stopped.{phase_one_stays, phase_one_goes}
use Rattle.phase_one.proofs.phase_one.Goals as goal

pub loop-j-init : goal.loop-j-init
loop-j-init c = λ e g. loop_start _ _ _

-- at most j are counted before step j
pub phase_one_step-q-requires-clause-p_len : goal.phase_one_step-q-requires-clause-p_len
phase_one_step-q-requires-clause-p_len c =
    let a = c.args in
    let s = a.params.now in
    let e = ap (λ (r : Run). r.progress.inexact) (c.loop-j.invariant [] []) in
    let k = phase_one_left s.variant s.tolerances s.numbers.now s.gamma a.n c.loop-j.j (state (mirrored a.n a.l.now) [] [] a.p.now a.r) c.requires.p_len.2 in
    (search rules, search rules, search rules, omega (arith, e, k.most))

pub returns-then-stopped : goal.returns-then-stopped
returns-then-stopped c =
    λ e g. loop_rest 0 _ _ _ _ _ zero-le (omega arith) (c.loop-j.invariant e g) (λ k u w. phase_one_stays _ _ _ _ _ k _ (sym c.stopped.ensures ∙ c.if-stopped.true)) ∙ sym (phase_one-is _ _ _ _ _ _)

pub loop-j-preserved : goal.loop-j-preserved
loop-j-preserved c =
    λ e g. loop_turn 0 _ _ _ _ _ zero-le (c.loop-j.invariant e g) (c.phase_one_step-q.ensures e g ∙ sym (phase_one_goes _ _ _ _ _ _ _ (sym c.stopped.ensures ∙ c.if-stopped.false)))

pub returns : goal.returns
returns c = λ e g. loop_end 0 _ _ _ _ _ (omega arith) (omega arith) (c.loop-j.invariant e g) ∙ sym (phase_one-is _ _ _ _ _ _)
