-- Load order of two whole calls, the first on a matrix, the second on its reloading: the checks pass both, and what they hand back is
-- alike. Proved as `calls` and, with contract numbers, as `numbered_calls` in proofs/Calls.antt.
use Rattle.std.specs.Prelude.{◌≡◌, true, List, ℕ, ◌*◌, ◌≤◌, length, Float, Ok}
use Rattle.arithmetic.specs.Outcome.{complete, Outcome}
use Rattle.matrix.specs.Checks.{Distinct}
use Rattle.matrix.specs.Matrix.{zeros}
use Rattle.methods.specs.AcceptedMatrix.{AcceptedMatrix}
use Rattle.methods.specs.Calls.{Call, method_of, number_checks, factor_checks, factor_call, factor_numbered_call}
use Rattle.methods.specs.Reloading.{LoadOrder, reload}
use Rattle.methods.specs.Result.{Result}
use Rattle.load_order.specs.LoadOrder.{Alike}
use Rattle.load_order.specs.Numbered.{reload_numbers, NumberedAlike}

-- what a call is lent to write to
pub record LentBuffers : Type 0 where
  pub l : List Float
  pub work : List Float
  pub e : List Float
  pub p : List ℕ

-- .. of the lengths that n rows need
pub record Fitting (n : ℕ) (b : LentBuffers) : Type 0 where
  pub l_is : length b.l ≡ n * n
  pub work_is : length b.work ≡ n * n
  pub e_is : length b.e ≡ n
  pub p_is : length b.p ≡ n

abbrev pub called : ℕ → ℕ → List Float → LentBuffers → Call
called method n a b = factor_call method n a b.l b.work b.e b.p

abbrev pub called_numbered : ℕ → ℕ → List Float → List ℕ → LentBuffers → Call
called_numbered method n a numbers b = factor_numbered_call method n a numbers b.l b.work b.e b.p

-- a call passes its checks, the number checks coming to `numbering`, and leaves its work buffer +0.0 throughout
pub record Passes (numbering : Outcome) (method n : ℕ) (a : List Float) (b : LentBuffers) (c : Call) : Type 0 where
  pub checks : complete (factor_checks method n a numbering (length b.l) (length b.work) (length b.e) (length b.p)) ≡ true
  pub cleared : c.work ≡ zeros (n * n)

-- what a call hands back beside the work buffer
abbrev pub handed_back : Call → Result
handed_back c = record { decomposition = c.decomposition; l = c.l; e = c.e; p = c.p }

-- ---- without contract numbers
pub record CallsAlike (method n : ℕ) (s : List ℕ) (a a' : List Float) (b b' : LentBuffers) : Type 0 where
  pub first : Passes (Ok tt) method n a b (called method n a b)
  pub second : Passes (Ok tt) method n a' b' (called method n a' b')
  pub alike : Alike n s (handed_back (called method n a b)) (handed_back (called method n a' b'))

abbrev pub CallsTheorem : Type 0
CallsTheorem =
    (method n : ℕ) (a : List Float) (s : List ℕ) (b b' : LentBuffers)
    → 1 ≤ method → method ≤ 3 → 1 ≤ n → n ≤ 48 → AcceptedMatrix n a → LoadOrder n s → Fitting n b → Fitting n b'
    → CallsAlike method n s a (reload n s a) b b'

-- ---- with contract numbers
pub record NumberedCallsAlike (method n : ℕ) (s : List ℕ) (a a' : List Float) (numbers numbers' : List ℕ) (b b' : LentBuffers) : Type 0 where
  pub first : Passes (number_checks n numbers) method n a b (called_numbered method n a numbers b)
  pub second : Passes (number_checks n numbers') method n a' b' (called_numbered method n a' numbers' b')
  pub alike : NumberedAlike (method_of method) n s (handed_back (called_numbered method n a numbers b)) (handed_back (called_numbered method n a' numbers' b'))

abbrev pub NumberedCallsTheorem : Type 0
NumberedCallsTheorem =
    (method n : ℕ) (a : List Float) (numbers s : List ℕ) (b b' : LentBuffers)
    → 1 ≤ method → method ≤ 3 → 1 ≤ n → n ≤ 48 → AcceptedMatrix n a → length numbers ≡ n → Distinct numbers → LoadOrder n s → Fitting n b → Fitting n b'
    → NumberedCallsAlike method n s a (reload n s a) numbers (reload_numbers n s numbers) b b'
