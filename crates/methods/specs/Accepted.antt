-- What a factorization call accepts: finite symmetric matrices of 1 to 48 rows, with buffers of the lengths that go with them, and
-- nothing else; with numbers, those that are as many and differ. Proved as `accepted` and `accepted_numbered` in
-- proofs/AcceptedCalls.antt.
use Rattle.std.specs.Prelude.{◌≡◌, true, List, ◌↔◌, ℕ, ◌*◌, ◌≤◌, length, Float, Ok}
use Rattle.arithmetic.specs.DoubleList.{AllDoubles}
use Rattle.arithmetic.specs.Outcome.{complete}
use Rattle.methods.specs.AcceptedMatrix.{AcceptedMatrix}
use Rattle.matrix.specs.Checks.{Distinct}
use Rattle.methods.specs.Calls.{number_checks, factor_checks}

-- l, work, e and p are the lengths of the buffers
pub record AcceptedOperands (method n : ℕ) (a : List Float) (l work e p : ℕ) : Type 0 where
  pub method_from : 1 ≤ method
  pub method_to : method ≤ 3
  pub rows_from : 1 ≤ n
  pub rows_to : n ≤ 48
  pub matrix : AcceptedMatrix n a
  pub l_is : l ≡ n * n
  pub work_is : work ≡ n * n
  pub e_is : e ≡ n
  pub p_is : p ≡ n

abbrev pub AcceptedTheorem : Type 0
AcceptedTheorem =
    (method n : ℕ) (a : List Float) (l work e p : ℕ)
    → AllDoubles a
    → complete (factor_checks method n a (Ok tt) l work e p) ≡ true ↔ AcceptedOperands method n a l work e p

-- a number for each row, no two equal
pub record AcceptedNumbers (n : ℕ) (numbers : List ℕ) : Type 0 where
  pub len : length numbers ≡ n
  pub distinct : Distinct numbers

abbrev pub AcceptedNumberedTheorem : Type 0
AcceptedNumberedTheorem =
    (method n : ℕ) (a : List Float) (numbers : List ℕ) (l work e p : ℕ)
    → AllDoubles a
    → complete (factor_checks method n a (number_checks n numbers) l work e p) ≡ true ↔ (AcceptedOperands method n a l work e p × AcceptedNumbers n numbers)
