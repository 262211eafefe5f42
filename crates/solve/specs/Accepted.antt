-- What the solve call accepts, and nothing else: 1 to 48 rows, lists of the lengths that go with them, a p that lists 0 to n - 1, each once,
-- a finite lower part of L without a zero on its diagonal, and a finite b. Proved as `solve-accepted` in proofs/Accepted.antt.
use Rattle.std.specs.Prelude.{◌≡◌, true, false, List, ◌↔◌, ℕ, ◌*◌, ◌≤◌, ◌<◌, length, get_or, Float}
use Rattle.std.specs.Float.{nan}
use Rattle.std.specs.Float.Ieee.{eq}
use Rattle.std.specs.Float.Ieee.Scale.{finite}
use Rattle.arithmetic.specs.Double.{plus_zero}
use Rattle.arithmetic.specs.Outcome.{complete}
use Rattle.arithmetic.specs.Outcome.{Outcome}
use Rattle.std.specs.Prelude.{Ok, Err}
use Rattle.arithmetic.specs.declared.refusal.Refusal.TheVariants.{StoredNotFinite}
use Rattle.matrix.specs.Checks.{Distinct}
use Rattle.matrix.specs.Matrix.{at}
use Rattle.matrix.specs.Plain.{AllBelow}
use Rattle.solve.specs.Substitution.{solve, solve_checks}

-- y is the length of the lent list
pub record AcceptedSolve (n : ℕ) (l : List Float) (y : ℕ) (p : List ℕ) (b : List Float) : Type 0 where
  pub rows_from : 1 ≤ n
  pub rows_to : n ≤ 48
  pub l_is : length l ≡ n * n
  pub y_is : y ≡ n
  pub p_is : length p ≡ n
  pub b_is : length b ≡ n
  pub below : AllBelow n p
  pub once : Distinct p
  pub lower : (i j : ℕ) → i < n → j ≤ i → finite (at n l i j) ≡ true
  pub right : (i : ℕ) → i < n → finite (get_or b i nan) ≡ true
  pub divisors : (i : ℕ) → i < n → eq (at n l i i) plus_zero ≡ false

abbrev pub SolveAcceptedTheorem : Type 0
SolveAcceptedTheorem =
    (n : ℕ) (l : List Float) (y : ℕ) (p : List ℕ) (b : List Float)
    → complete (solve_checks n l y p b) ≡ true ↔ AcceptedSolve n l y p b

-- ---- what passes is complete, or refused 9 at one of its rows. Proved as `solve-ends` in proofs/Ends.antt.
pub data Ended (n : ℕ) (o : Outcome) : Type 0 where
  whole : o ≡ Ok tt → Ended n o
  refused_row : (t : ℕ) → t < n → o ≡ Err (StoredNotFinite t) → Ended n o

abbrev pub SolveEndsTheorem : Type 0
SolveEndsTheorem = (n : ℕ) (l : List Float) (p : List ℕ) (b : List Float) → Ended n (solve n l p b).outcome
