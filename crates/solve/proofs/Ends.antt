-- Every call that passes its checks is complete, or refused 9 at one of its rows.
use mathlib.Core.Path.{refl}
use mathlib.Core.Bool.{Bool, true, false, not, cond}
use mathlib.Core.List.{List}
use Prim.Native.Nat.{ℕ, ◌-◌, ◌<◌}
use native.Mathlib.Omega.{arith}
use lib.Ieee.{Float}
use lib.Ieee.Scale.{finite}
use Rattle.arithmetic.specs.Outcome.{complete, refuse}
use Rattle.arithmetic.specs.declared.refusal.Refusal.TheVariants.{StoredNotFinite}
use Rattle.arithmetic.proofs.LoopLaws.{range-ind}
use Rattle.solve.specs.Accepted.{Ended, SolveEndsTheorem}
use Rattle.solve.specs.Accepted.Ended.{whole, refused_row}
use Rattle.solve.specs.Substitution.{Rows, store, forward_row, forward_value, forward, backward_row, backward_value, backward, solve}

stored : (n t : ℕ) → t < n → (bad : Bool) → Ended n (refuse bad (StoredNotFinite t))
stored n t h true = refused_row t h refl
stored n t h false = whole refl

row : (n t : ℕ) → t < n → (v : Float) (s : Rows) (go : Bool) → Ended n s.outcome → Ended n (cond go (store t v s.values) s).outcome
row n t h v s true E = stored n t h (not (finite v))
row n t h v s false E = E

forward-ends : (n : ℕ) (l : List Float) (p : List ℕ) (b : List Float) → Ended n (forward n l p b).outcome
unfolding forward forward_row
forward-ends n l p b = range-ind (λ t s. Ended n s.outcome) 0 n (forward_row n l p b) _ (omega arith) (whole refl)
    (λ t u h s E. row n t h (forward_value n l p b t s.values) s (complete s.outcome) E)

backward-ends : (n : ℕ) (l : List Float) (s : Rows) → Ended n s.outcome → Ended n (backward n l s).outcome
unfolding backward backward_row
backward-ends n l s E = range-ind (λ i s. Ended n s.outcome) 0 n (λ i. backward_row n l (n - 1 - i)) s (omega arith) E
    (λ i u h s E. row n (n - 1 - i) (omega arith) (backward_value n l (n - 1 - i) s.values) s (complete s.outcome) E)

pub solve-ends : SolveEndsTheorem
unfolding solve
solve-ends n l p b = backward-ends n l (forward n l p b) (forward-ends n l p b)
