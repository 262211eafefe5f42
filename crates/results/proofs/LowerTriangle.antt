-- +0.0 above the diagonal: what the end of a run leaves in L, and the filling of a refused run.
use mathlib.Core.Path.{◌≡◌, refl}
use mathlib.Core.List.{List}
use Prim.Native.Nat.{ℕ, ◌*◌, ◌+◌, ◌<◌}
use native.Mathlib.Omega.{arith}
use lib.ListN.{length-replicate, get_or-replicate}
use lib.Ieee.{Float, nan}
use Rattle.arithmetic.specs.Double.{plus_zero}
use Rattle.matrix.specs.Matrix.{at, zeros}
use Rattle.matrix.proofs.CellLaws.{cell_lt}
use Rattle.methods.specs.Result.{filled}
use Rattle.methods.specs.Statements.{lower_triangle}
use Rattle.methods.specs.Marks.{Mark}
use Rattle.std.specs.Prelude.{None, Some}
use Rattle.methods.proofs.FiniteEntries.{FiniteEntries, zero_finite, triangle_above, triangle_finite}
use Rattle.results.specs.Results.{LowerFactor}

pub finite_lower : (n : ℕ) (l : List Float) → FiniteEntries n l → ((i j : ℕ) → i < j → j < n → at n l i j ≡ plus_zero) → LowerFactor n l
finite_lower n l F u = record { len = F.entries; finite_entries = F.each; upper = u }

pub triangle_lower : (n : ℕ) (m : List Float) → FiniteEntries n m → LowerFactor n (lower_triangle n m)
triangle_lower n m F = finite_lower n (lower_triangle n m) (triangle_finite n m F) (triangle_above n m F.entries)

-- ---- the fillings of a refused run
zeros-lower : (n : ℕ) → LowerFactor n (zeros (n * n))
zeros-lower n = record {
  len = length-replicate (n * n) plus_zero;
  finite_entries = λ x y px py. rw (here x y px py) zero_finite;
  upper = λ x y p q. here x y (omega arith) q;
}
  where
    here : (x y : ℕ) → x < n → y < n → at n (zeros (n * n)) x y ≡ plus_zero
    here x y px py = get_or-replicate (n * n) (x * n + y) plus_zero nan (cell_lt n x y px py)

pub filled-lower : (m : Mark) (n : ℕ) (l : List Float) → (m ≡ None → LowerFactor n l) → LowerFactor n (filled m (n * n) l)
filled-lower None n l h = h refl
filled-lower (Some j) n l h = zeros-lower n
