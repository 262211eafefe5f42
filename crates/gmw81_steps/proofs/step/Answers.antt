use mathlib.Core.Path.{◌≡◌, sym, ◌∙◌}
use mathlib.Core.Bool.{Bool, true, false}
use mathlib.Core.List.{List}
use Prim.Native.Nat.{ℕ}
use lib.Ieee.{Float}
use Rattle.matrix.specs.declared.utils.Found.{Found}
use Rattle.methods.specs.Gmw81.{Run, step_at, step, state}
use Rattle.methods.specs.Progress.{stopped}
use Rattle.methods.specs.Statements.{diagonal, pick}
use Rattle.methods.proofs.GmwLaws.{step_stays, step-goes}
use Rattle.methods.proofs.Pivots.{length-diagonal, picked_below}
use Rattle.gmw81_steps.proofs.step.Goals as goal

goes : (numbers : List ℕ) (n : ℕ) (delta beta : Float) (j : ℕ) (s t : Run) (f : Found) (b : Bool) → b ≡ stopped s.progress → b ≡ false → f ≡ pick numbers s.p true (diagonal n s.c) j
    → t ≡ step_at n delta beta j f.index f.tied s → t ≡ step numbers n delta beta j s
goes numbers n delta beta j s t f b em eb ef et = et ∙ rw ef (sym (step-goes numbers n delta beta j s (sym em ∙ eb)))

pub returns-then-stopped : goal.returns-then-stopped
returns-then-stopped c = sym (step_stays _ _ _ _ _ _ (sym c.stopped.ensures ∙ c.if-stopped.true))

pub step_at-requires-clause-max_idx_bound : goal.step_at-requires-clause-max_idx_bound
step_at-requires-clause-max_idx_bound c = picked_below _ _ _ _ _ _ _ c.search_diagonal-f.ensures (length-diagonal c.args.n c.args.c.now) c.requires.j_lt_n

pub returns : goal.returns
returns c =
    let a = c.args in
    goes a.numbers.now a.n a.limits.delta a.limits.beta a.j (state a.l.now a.c.now a.d.now a.e.now a.p.now a.r) _ c.search_diagonal-f.result c.stopped.result c.stopped.ensures c.if-stopped.false c.search_diagonal-f.ensures c.step_at.ensures
