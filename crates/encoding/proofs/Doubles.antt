-- Doubles read from bytes.
use mathlib.Core.Path.{◌≡◌, ap, ◌∙◌}
use mathlib.Core.List.{List}
use mathlib.Core.Bool.{Bool, true, not}
use Prim.Native.Nat.{ℕ, ◌*◌, ◌/◌, ◌<◌}
use native.Mathlib.Omega.{arith}
use lib.ListN.{length, get_or, take, drop}
use lib.Dec.{T}
use lib.Ieee.{Float, nan, binary64, of_bits, nan_bits}
use lib.Ieee.Bits.{of_bits-fits}
use lib.Ieee.Scale.{finite}
use Rattle.arithmetic.specs.DoubleList.{AllDoubles}
use Rattle.matrix.proofs.TableLaws.{length-table, get_or-table}
use Rattle.matrix.specs.Checks.{not_finite}
use Rattle.encoding.specs.Bytes.{low_first, double, doubles}
use Rattle.encoding.proofs.Numbers.{bits-no_nan}

pub doubles-length : (b : List ℕ) → length (doubles b) ≡ length b / 8
unfolding doubles
doubles-length b = length-table (length b / 8) (λ k. double (take 8 (drop (8 * k) b)))

pub doubles-at : (b : List ℕ) (k : ℕ) (d : Float) → k < length b / 8 → get_or (doubles b) k d ≡ of_bits binary64 (low_first (take 8 (drop (8 * k) b)))
unfolding doubles double
doubles-at b k d h = get_or-table (length b / 8) (λ k. double (take 8 (drop (8 * k) b))) k d h

-- what is read from bytes is a double
pub doubles-fit : (b : List ℕ) → AllDoubles (doubles b)
doubles-fit b k h = rw (doubles-at b k nan (omega (arith, doubles-length b))) (of_bits-fits binary64 (low_first _))

-- ---- one double's pattern v
module _ (b : List ℕ) (k v : ℕ) (h : k < length b / 8) (e : v ≡ low_first (take 8 (drop (8 * k) b))) where
  pub pattern_is : of_bits binary64 v ≡ get_or (doubles b) k nan
  pattern_is = rw (doubles-at b k nan h, e)

  pub pattern_test : (t : Bool) → t ≡ finite (of_bits binary64 v) → not_finite (doubles b) k ≡ not t
  pattern_test t g = rw (← pattern_is, g)

  pub pattern_no_nan : finite (get_or (doubles b) k nan) ≡ true → T (not (nan_bits binary64 v))
  pattern_no_nan f = bits-no_nan v (ap finite pattern_is ∙ f)
