-- Document 02's N3: the vector y with L times L transposed times y equal to b, in pivot order, put back in contract order; its steps, and
-- what the call answers, on accepted and refused operands.
use Rattle.std.specs.Prelude.{◌≡◌, List, cond, not, ℕ, ◌+◌, ◌-◌, length, get_or, set, Float}
use Rattle.std.specs.Float.{nan}
use Rattle.std.specs.Float.Ieee.Scale.{finite}
use Rattle.arithmetic.specs.Double.{plus_zero, ◌⊕◌, ◌⊖◌, ◌⊗◌, ◌⊘◌}
use Rattle.arithmetic.specs.Loop.{range}
use Rattle.arithmetic.specs.Outcome.{complete, refuse, ◌then◌}
use Rattle.arithmetic.specs.Outcome.{Outcome}
use Rattle.std.specs.Prelude.{Ok}
use Rattle.arithmetic.specs.declared.refusal.Refusal.TheVariants.{StoredNotFinite}
use Rattle.matrix.specs.Matrix.{at, zeros, Square}
use Rattle.matrix.specs.Checks.{check_size, check_matrix, check_buffer, check_finite, check_list}
use Rattle.matrix.specs.Plain.{AllBelow}
use Rattle.solve.specs.Checks.{check_order, check_lower, check_divisors}

-- ---- rows: a vector in pivot order, and how the rows solved so far ended
pub record Rows : Type 0 where
  pub outcome : Outcome
  pub values : List Float

abbrev pub solved_rows : Outcome → List Float → Rows
solved_rows outcome values = record { outcome = outcome; values = values }

-- .. where none was refused
abbrev pub solved : List Float → Rows
solved values = solved_rows (Ok tt) values

-- row t becomes v: a value that isn't finite is 9 at that row
abbrev pub store : ℕ → Float → List Float → Rows
store t v values = solved_rows (refuse (not (finite v)) (StoredNotFinite t)) (set values t v)

-- ---- forward, from row 0 down: z[t] = (b[p[t]] - sum) / L(t, t)

-- L(t, 0) * z[0] + .. + L(t, t - 1) * z[t - 1], from +0.0
unfoldable pub forward_sum : ℕ → List Float → List Float → ℕ → Float
unfolding range
forward_sum n l z t = range 0 t (λ k sum. sum ⊕ at n l t k ⊗ get_or z k nan) plus_zero

abbrev pub forward_value : ℕ → List Float → List ℕ → List Float → ℕ → List Float → Float
forward_value n l p b t z = (get_or b (get_or p t 0) nan ⊖ forward_sum n l z t) ⊘ at n l t t

-- nothing is done once a row was refused
unfoldable pub forward_row : ℕ → List Float → List ℕ → List Float → ℕ → Rows → Rows
unfolding forward_sum
forward_row n l p b t s = cond (complete s.outcome) (store t (forward_value n l p b t s.values) s.values) s

unfoldable pub forward : ℕ → List Float → List ℕ → List Float → Rows
unfolding range forward_row
forward n l p b = range 0 n (forward_row n l p b) (solved (zeros n))

-- ---- backward, from row n - 1 up: w[t] = (z[t] - sum) / L(t, t). One list holds both: w behind row t, z up to it.

-- L(t + 1, t) * w[t + 1] + .. + L(n - 1, t) * w[n - 1], from +0.0 and by rising row
unfoldable pub backward_sum : ℕ → List Float → List Float → ℕ → Float
unfolding range
backward_sum n l w t = range (t + 1) n (λ k sum. sum ⊕ at n l k t ⊗ get_or w k nan) plus_zero

abbrev pub backward_value : ℕ → List Float → ℕ → List Float → Float
backward_value n l t w = (get_or w t nan ⊖ backward_sum n l w t) ⊘ at n l t t

unfoldable pub backward_row : ℕ → List Float → ℕ → Rows → Rows
unfolding backward_sum
backward_row n l t s = cond (complete s.outcome) (store t (backward_value n l t s.values) s.values) s

unfoldable pub backward : ℕ → List Float → Rows → Rows
unfolding range backward_row
backward n l s = range 0 n (λ i. backward_row n l (n - 1 - i)) s

-- ---- in contract order: y[p[t]] = w[t]
unfoldable pub put_back : ℕ → List ℕ → List Float → List Float
unfolding range
put_back n p w = range 0 n (λ t y. set y (get_or p t 0) (get_or w t nan)) (zeros n)

-- ---- what the call answers
pub record SolveCall : Type 0 where
  pub outcome : Outcome
  pub y : List Float

abbrev pub solve_call_of : Outcome → List Float → SolveCall
solve_call_of outcome y = record { outcome = outcome; y = y }

-- the rows solved, put back; after 9 y is +0.0 throughout
abbrev pub answer_of : ℕ → List ℕ → Rows → SolveCall
answer_of n p s = solve_call_of s.outcome (cond (complete s.outcome) (put_back n p s.values) (zeros n))

unfoldable pub solve : ℕ → List Float → List ℕ → List Float → SolveCall
unfolding forward backward put_back
solve n l p b = answer_of n p (backward n l (forward n l p b))

-- 3, 4, 5, 14, on the lengths of L, y, p and b
abbrev pub length_checks : ℕ → ℕ → ℕ → ℕ → ℕ → Outcome
length_checks n l y p b = check_size n then check_matrix n l then check_buffer n y then check_list n p then check_list n b

-- 6, 7 (L's lower part, then b), 15
abbrev pub content_checks : ℕ → List Float → List ℕ → List Float → Outcome
content_checks n l p b = check_order n p then check_lower n l then check_finite 1 b then check_divisors n l

abbrev pub solve_checks : ℕ → List Float → ℕ → List ℕ → List Float → Outcome
solve_checks n l y p b = length_checks n (length l) y (length p) (length b) then content_checks n l p b

-- refused before the first row: y untouched
abbrev pub solve_call : ℕ → List Float → List ℕ → List Float → List Float → SolveCall
solve_call n l p b y =
    let checks = solve_checks n l (length y) p b in
    cond (complete checks) (solve n l p b) (solve_call_of checks y)

-- what the steps need of L, p and b
pub record Solvable (n : ℕ) (l : List Float) (p : List ℕ) (b : List Float) : Type 0 where
  pub square : Square n l
  pub p_is : length p ≡ n
  pub below : AllBelow n p
  pub b_is : length b ≡ n
