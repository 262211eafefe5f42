-- What a factorization call answers after its checks, with numbers or without.
use mathlib.Core.Path.{◌≡◌}
use mathlib.Core.List.{List}
use mathlib.Core.Bool.{true, false}
use Prim.Native.Nat.{ℕ}
use lib.ListN.{length}
use lib.Ieee.{Float}
use Rattle.arithmetic.specs.Outcome.{complete, Outcome}
use Rattle.methods.specs.Calls.{Call, untouched, answered, method_of, factor_checks, call_with}
use Rattle.methods.specs.Factor.{factor, tolerances}

module _ (numbering : Outcome) (numbers : List ℕ) (method n : ℕ) (a l work e : List Float) (p : List ℕ) where
  pub refuses : complete (factor_checks method n a numbering (length l) (length work) (length e) (length p)) ≡ false
      → untouched (factor_checks method n a numbering (length l) (length work) (length e) (length p)) l work e p ≡ call_with numbering numbers method n a l work e p
  unfolding call_with
  refuses h = rw h

  pub answers : (r : Call) → complete (factor_checks method n a numbering (length l) (length work) (length e) (length p)) ≡ true
      → r ≡ answered n (factor (method_of method) tolerances numbers n a) → r ≡ call_with numbering numbers method n a l work e p
  unfolding call_with
  answers r h k = rw h k
