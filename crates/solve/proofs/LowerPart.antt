-- Of L only the lower part is read: by each check, by each step, and so by the call.
use mathlib.Core.Path.{◌≡◌, ap}
use mathlib.Core.Bool.{not}
use mathlib.Core.List.{List}
use Prim.Native.Nat.{ℕ, ◌+◌, ◌-◌, ◌<◌}
use native.Mathlib.Decide.{dec_lt}
use native.Mathlib.Omega.{arith}
use lib.ListN.{get_or}
use lib.Ieee.{Float, nan, eq}
use lib.Ieee.Scale.{finite}
use lib.Dec.{leb}
use borrow.Author.Tests.{le-ltb}
use Rattle.arithmetic.specs.Double.{plus_zero, ◌⊕◌, ◌⊗◌}
use Rattle.arithmetic.proofs.FirstLaws.{same_first}
use Rattle.arithmetic.proofs.LoopLaws.{same-loops}
use Rattle.matrix.specs.Matrix.{at}
use Rattle.solve.specs.Checks.{check_lower, check_divisors, first_in_row, first_row}
use Rattle.solve.specs.LowerPart.{SameLower, LowerPartTheorem}
use Rattle.solve.specs.Substitution.{Rows, forward_sum, forward_row, forward, backward_sum, backward_row, backward, solve, content_checks}

module _ (n : ℕ) (l l' : List Float) (S : SameLower n l l') where
  -- ---- the checks
  in_row : (i : ℕ) → i < n → first_in_row n l i ≡ first_in_row n l' i
  in_row i h = same_first _ _ (i + 1) (λ j q. ap (λ (v : Float). not (finite v)) (S.entries i j h (omega arith)))

  first-row : first_row n l ≡ first_row n l'
  first-row = same_first _ _ n (λ i h. ap (λ (j : ℕ). leb j i) (in_row i h))

  pub divisors-lower : check_divisors n l ≡ check_divisors n l'
  divisors-lower = rw (same_first (λ i. eq (at n l i i) plus_zero) (λ i. eq (at n l' i i) plus_zero) n (λ i h. ap (λ (v : Float). eq v plus_zero) (S.entries i i h (omega arith))))

  check_same : check_lower n l ≡ check_lower n l'
  check_same = elim (dec_lt (first_row n l) n) [
    | yes p ↦ rw (← first-row, in_row (first_row n l) p)
    | no p ↦ rw (← first-row, le-ltb (first_row n l) n (omega arith))
  ]

  pub content-lower : (p : List ℕ) (b : List Float) → content_checks n l p b ≡ content_checks n l' p b
  content-lower p b = rw (check_same, divisors-lower)

  -- ---- the steps
  forward-sum : (z : List Float) (t : ℕ) → t < n → forward_sum n l z t ≡ forward_sum n l' z t
  unfolding forward_sum
  forward-sum z t h = same-loops 0 t _ _ plus_zero (omega arith) (λ k p q sum. ap (λ (v : Float). sum ⊕ v ⊗ get_or z k nan) (S.entries t k h (omega arith)))

  backward-sum : (w : List Float) (t : ℕ) → t < n → backward_sum n l w t ≡ backward_sum n l' w t
  unfolding backward_sum
  backward-sum w t h = same-loops (t + 1) n _ _ plus_zero (omega arith) (λ k p q sum. ap (λ (v : Float). sum ⊕ v ⊗ get_or w k nan) (S.entries k t q (omega arith)))

  forward-same : (p : List ℕ) (b : List Float) → forward n l p b ≡ forward n l' p b
  unfolding forward forward_row
  forward-same p b = same-loops 0 n (forward_row n l p b) (forward_row n l' p b) _ (omega arith) (λ t u h s. rw (forward-sum s.values t h, S.entries t t h (omega arith)))

  backward-same : (s : Rows) → backward n l s ≡ backward n l' s
  unfolding backward backward_row
  backward-same s = same-loops 0 n (λ i. backward_row n l (n - 1 - i)) (λ i. backward_row n l' (n - 1 - i)) s (omega arith) (λ i u h s.
      let q : n - 1 - i < n = omega arith in
      rw (backward-sum s.values (n - 1 - i) q, S.entries (n - 1 - i) (n - 1 - i) q (omega arith)))

  pub solve-lower : (p : List ℕ) (b : List Float) → solve n l p b ≡ solve n l' p b
  unfolding solve
  solve-lower p b = rw (forward-same p b, backward-same (forward n l' p b))

pub lower-part : LowerPartTheorem
lower-part n l l' p b y S = rw (S.len, content-lower n l l' S p b, solve-lower n l l' S p b)
