use mathlib.Core.Path.{◌≡◌}
use mathlib.Core.Bool.{Bool}
use mathlib.Core.List.{List}
use Prim.Native.Nat.{ℕ}
use lib.ListN.{set}
use lib.Ieee.{Float}
use Rattle.methods.specs.Gmw81.{Stepped, state, stored_finite, step_at}
use Rattle.methods.specs.Progress.{searched, stored}
use Rattle.methods.specs.Statements.{pivot_list}
use Rattle.methods.specs.declared.progress.Progress.{Progress}
use Rattle.methods.specs.declared.gmw81.StepValues.{StepValues}
use Rattle.methods.proofs.GmwLaws.{step-at_is}
use Rattle.gmw81_steps.proofs.step_at.Goals as goal

stepped : (n : ℕ) (delta beta : Float) (j m : ℕ) (tied : Bool) (l c d e : List Float) (p : List ℕ) (r : Progress) (l' c' : List Float) (v : StepValues) (p' : List ℕ) (ok : Bool) (q q' : Progress)
    → Stepped n delta beta j m l c d l' c' v → p' ≡ pivot_list 0 j v.pivot p → ok ≡ stored_finite n j l' c' v.d v.e
    → q ≡ searched tied j r → q' ≡ stored ok j q
    → state l' c' (set d j v.d) (set e j v.e) p' q' ≡ step_at n delta beta j m tied (state l c d e p r)
stepped n delta beta j m tied l c d e p r l' c' v p' ok q q' h ep eok et er =
    rw (step-at_is, er, et, eok, ep, h.pivot_is, h.e_is, h.d_is, h.c_is, h.l_is)

pub returns : goal.returns
returns c =
    let a = c.args in
    stepped a.n a.limits.delta a.limits.beta a.j a.max_idx a.tie a.l.now a.c.now a.d.now a.e.now a.p.now a.r _ _ c.step_values-v.result _ _ _ _
    c.step_values-v.ensures (c.pivot_list.ensures 0) c.stored_finite-ok.ensures c.searched.ensures c.stored.ensures
