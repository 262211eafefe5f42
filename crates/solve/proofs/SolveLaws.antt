-- The definitions of solving by the loops and the branches that the code has, and what its checks pass on.
use mathlib.Core.Path.{◌≡◌, refl, sym}
use mathlib.Core.Bool.{true, false}
use mathlib.Core.List.{List}
use Prim.Native.Nat.{ℕ, ◌+◌, ◌-◌, ◌<◌}
use native.Mathlib.Omega.{arith}
use lib.ListN.{length, get_or}
use lib.Ieee.{Float, nan}
use Rattle.arithmetic.specs.Double.{plus_zero, ◌⊕◌, ◌⊖◌, ◌⊗◌, ◌⊘◌}
use Rattle.arithmetic.specs.Loop.{range}
use Rattle.std.specs.Prelude.{Err}
use Rattle.arithmetic.specs.Outcome.{Outcome, complete}
use Rattle.arithmetic.specs.declared.refusal.Refusal.{Refusal}
use Rattle.arithmetic.proofs.LoopLaws.{loop_start, loop_rest}
use Rattle.arithmetic.proofs.Counting.{Counting, counting_left}
use Rattle.matrix.specs.Matrix.{at, zeros, Square}
use Rattle.matrix.proofs.CheckLaws.{Accepted, both_accepted, goes_on, size_accepted, matrix-accepted}
use Rattle.solve.specs.Substitution.{Rows, solved_rows, solved, store, forward_sum, forward_row, forward, backward_sum, backward_row, backward, put_back, solve_call_of, answer_of, solve, length_checks, content_checks, solve_checks, Solvable}
use Rattle.solve.proofs.Accepted.{solve-accepted}

pub forward-sum_is : (n : ℕ) (l z : List Float) (t : ℕ) → forward_sum n l z t ≡ range 0 t (λ k sum. sum ⊕ at n l t k ⊗ get_or z k nan) plus_zero
unfolding forward_sum
forward-sum_is n l z t = refl

pub backward-sum_is : (n : ℕ) (l w : List Float) (t : ℕ) → backward_sum n l w t ≡ range (t + 1) n (λ k sum. sum ⊕ at n l k t ⊗ get_or w k nan) plus_zero
unfolding backward_sum
backward-sum_is n l w t = refl

-- ---- nothing is done once a row was refused
module _ (n : ℕ) (l : List Float) (refusal : Refusal) (values : List Float) where
  pub forward-row_stays : (p : List ℕ) (b : List Float) (t : ℕ) → forward_row n l p b t (solved_rows (Err refusal) values) ≡ solved_rows (Err refusal) values
  unfolding forward_row
  forward-row_stays p b t = refl

  pub backward-row_stays : (t : ℕ) → backward_row n l t (solved_rows (Err refusal) values) ≡ solved_rows (Err refusal) values
  unfolding backward_row
  backward-row_stays t = refl

  pub backward_stays : backward n l (solved_rows (Err refusal) values) ≡ solved_rows (Err refusal) values
  unfolding backward
  backward_stays =
      let turn : ℕ → Rows → Rows = λ i. backward_row n l (n - 1 - i) in
      let s = solved_rows (Err refusal) values in
      sym (loop_rest 0 0 n turn s s (omega arith) (omega arith) (loop_start 0 turn s) (λ k p q. backward-row_stays (n - 1 - k)))

-- .. so a loop may be left at such a row
module _ (n : ℕ) (l : List Float) {t : ℕ} {values : List Float} {refusal : Refusal} where
  pub forward_left : (p : List ℕ) (b : List Float) {z : List Float} → Counting 0 n t (forward_row n l p b) (solved (zeros n)) (solved z) → t < n
      → solved_rows (Err refusal) values ≡ forward_row n l p b t (solved z) → solved_rows (Err refusal) values ≡ forward n l p b
  unfolding forward
  forward_left p b C h e = counting_left C h e (λ k. forward-row_stays n l refusal values p b k)

  pub backward_left : {s : Rows} {w : List Float} → Counting 0 n t (λ i. backward_row n l (n - 1 - i)) s (solved w) → t < n
      → solved_rows (Err refusal) values ≡ backward_row n l (n - 1 - t) (solved w) → solved_rows (Err refusal) values ≡ backward n l s
  unfolding backward
  backward_left C h e = counting_left C h e (λ k. backward-row_stays n l refusal values (n - 1 - k))

-- ---- one row, with what the code's calls answered
module _ (n : ℕ) (l : List Float) (t : ℕ) (values : List Float) {r : Rows} {sum d : Float} (q : d ≡ at n l t t) where
  pub forward-row_goes : (p : List ℕ) (b : List Float) → sum ≡ forward_sum n l values t
      → r ≡ store t ((get_or b (get_or p t 0) nan ⊖ sum) ⊘ d) values → r ≡ forward_row n l p b t (solved values)
  unfolding forward_row
  forward-row_goes p b e g = rw (← e, ← q) g

  pub backward-row_goes : sum ≡ backward_sum n l values t → r ≡ store t ((get_or values t nan ⊖ sum) ⊘ d) values → r ≡ backward_row n l t (solved values)
  unfolding backward_row
  backward-row_goes e g = rw (← e, ← q) g

module _ (n : ℕ) (l : List Float) (p : List ℕ) (b : List Float) where
  -- the contract at row t has its place in b
  pub contract_below : (t : ℕ) → Solvable n l p b → t < n → get_or p t 0 < length b
  contract_below t s h = let q = s.below t (omega (arith, s.p_is)) in omega (arith, s.b_is)

  -- ---- the answer, with what the code's calls answered
  module _ {o : Outcome} {w : List Float} (ran : solved_rows o w ≡ backward n l (forward n l p b)) where
    answer-is : solve n l p b ≡ answer_of n p (solved_rows o w)
    unfolding solve
    answer-is = rw (← ran)

    pub answer-refused : {y : List Float} → complete o ≡ false → y ≡ zeros n → solve_call_of o y ≡ solve n l p b
    answer-refused h e = rw (answer-is, h, e)

    pub answer-complete : {y : List Float} → complete o ≡ true → y ≡ put_back n p w → solve_call_of o y ≡ solve n l p b
    answer-complete h e = rw (answer-is, h, e)

  -- ---- what the checks say of the operands
  pub lengths_square : (y : ℕ) → Accepted (length_checks n (length l) y (length p) (length b)) → Square n l
  lengths_square y h =
      let t = both_accepted _ _ (both_accepted _ _ (both_accepted _ _ (both_accepted _ _ h).0).0).0 in
      record { len = matrix-accepted n (length l) t.1; small = (size_accepted n t.0).1 }

  pub contents_decide : (y : ℕ) {r : Outcome} → Accepted (length_checks n (length l) y (length p) (length b)) → r ≡ content_checks n l p b → r ≡ solve_checks n l y p b
  contents_decide y A e = goes_on A e

  pub call-operands : (y : ℕ) → Accepted (solve_checks n l y p b) → Solvable n l p b × (y ≡ n)
  call-operands y h =
      let A = (solve-accepted n l y p b).0 h.is in
      (record { square = record { len = A.l_is; small = A.rows_to }; p_is = A.p_is; below = A.below; b_is = A.b_is }, A.y_is)
