use mathlib.Core.Path.{◌≡◌}
use mathlib.Core.List.{List}
use Prim.Native.Nat.{ℕ}
use lib.Ieee.{Float}
use Rattle.methods.specs.Calls.{Call, answered}
use Rattle.methods.specs.Factor.{factor, tolerances}
use Rattle.methods.specs.Gmw81.{mod_cholesky_gmw81}
use Rattle.methods.specs.Se.{mod_cholesky_se}
use Rattle.methods.specs.declared.method.Method.{Method}
use Rattle.methods.specs.declared.method.Method.TheVariants.{Gmw81, Se}
use Rattle.methods.specs.declared.schnabel_eskow.Variant.{Variant}
use Rattle.modcholesky.proofs.calls.run.Goals as goal

module _ (method : Method) (numbers : List ℕ) (n : ℕ) (a : List Float) (r : Call) where
  by_gmw81 : method ≡ Gmw81 → r ≡ answered n (mod_cholesky_gmw81 numbers n a) → r ≡ answered n (factor method tolerances numbers n a)
  unfolding factor
  by_gmw81 m e = rw m e

  by_se : (v : Variant) → method ≡ Se v → r ≡ answered n (mod_cholesky_se v tolerances numbers n a) → r ≡ answered n (factor method tolerances numbers n a)
  unfolding factor
  by_se v m e = rw m e

pub returns-in-Gmw81 : goal.returns-in-Gmw81
returns-in-Gmw81 c =
    by_gmw81 _ _ _ _ _ c.in-Gmw81.is c.run.ensures

pub returns-in-Se : goal.returns-in-Se
returns-in-Se c =
    by_se _ _ _ _ _ _ c.in-Se.is c.run-in-Se.ensures
