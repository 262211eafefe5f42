-- The scaled factor of GMW81: a lower triangle times the diagonal of the roots is a lower triangle.
use mathlib.Core.Path.{◌≡◌, subst, ◌∙◌}
use mathlib.Core.List.{List}
use mathlib.Core.Bool.{Bool, true, ◌&&◌}
use Prim.Native.Nat.{ℕ, ◌+◌, ◌*◌, ◌<◌}
use native.Mathlib.Omega.{arith}
use lib.ListN.{get_or}
use lib.Ieee.{Float, nan}
use lib.Ieee.Scale.{finite}
use Rattle.arithmetic.specs.All.{all}
use Rattle.arithmetic.proofs.AllLaws.{all-each}
use Rattle.arithmetic.specs.Double.{plus_zero, ◌⊗◌}
use Rattle.arithmetic.proofs.OrderLaws.{and_1, and_2}
use Rattle.arithmetic.specs.Sqrt.{sqrt}
use Rattle.arithmetic.proofs.Zeros.{zero_times, add-zero}
use Rattle.matrix.specs.Checks.{AllFinite}
use Rattle.matrix.proofs.CellLaws.{cell_lt}
use Rattle.methods.specs.Gmw81.{dout_of, product, scaled_finite}
use Rattle.methods.proofs.Scaled.{product-entries, dout_root, scaled_at}
use Rattle.results.specs.Results.{LowerFactor}

abbrev all_finite : ℕ → List Float → Bool
all_finite n m = all 0 (n * n) (λ k. finite (get_or m k nan))

each_finite : (n : ℕ) (m : List Float) → all_finite n m ≡ true → AllFinite n m
each_finite n m e x y px py = all-each 0 (n * n) (λ k. finite (get_or m k nan)) (omega arith) e (x * n + y) (omega arith) (cell_lt n x y px py)

module _ (n : ℕ) (l d : List Float) (L : LowerFactor n l) (test : scaled_finite n (dout_of n d) (product n l (dout_of n d)) ≡ true) where
  tests : (all_finite n (dout_of n d) && all_finite n (product n l (dout_of n d))) ≡ true
  unfolding scaled_finite
  tests = test

  root-finite : (i : ℕ) → i < n → finite (sqrt (get_or d i nan)) ≡ true
  root-finite i h = subst (λ (v : Float). finite v ≡ true) (dout_root n d i h) (each_finite n (dout_of n d) (and_1 (all_finite n (dout_of n d)) (all_finite n (product n l (dout_of n d))) tests) i i h h)

  pub product-lower : LowerFactor n (product n l (dout_of n d))
  product-lower = record {
    len = product-entries n l (dout_of n d);
    finite_entries = each_finite n (product n l (dout_of n d)) (and_2 (all_finite n (dout_of n d)) (all_finite n (product n l (dout_of n d))) tests);
    upper = λ x y p q. scaled_at n l d L.finite_entries x y (omega arith) q
        ∙ rw (L.upper x y p q) (add-zero (plus_zero ⊗ sqrt (get_or d y nan)) (zero_times (sqrt (get_or d y nan)) (root-finite y q)));
  }
