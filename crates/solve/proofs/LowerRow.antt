-- Row i of n rows up to its diagonal, as a list of its own.
use mathlib.Core.Path.{◌≡◌, ap, ◌∙◌}
use mathlib.Core.Bool.{Bool, true, not, ◌&&◌}
use mathlib.Core.List.{List}
use Prim.Native.Nat.{ℕ, ◌+◌, ◌-◌, ◌*◌, ◌<◌}
use native.Mathlib.Omega.{arith}
use lib.ListN.{length, get_or, drop, length-drop}
use lib.Seq.{length-take-le, get_or-take, get_or-drop}
use lib.Ieee.{Float, nan}
use lib.Ieee.Scale.{finite}
use Rattle.std.specs.List.{slice_range}
use Rattle.arithmetic.specs.All.{all}
use Rattle.arithmetic.proofs.FirstLaws.{same_first}
use Rattle.arithmetic.proofs.LoopLaws.{same-loops}
use Rattle.matrix.specs.Matrix.{Square, at}
use Rattle.matrix.specs.Checks.{not_finite, first_not_finite}
use Rattle.matrix.proofs.CellLaws.{cell_lt}
use Rattle.solve.specs.Checks.{first_in_row}

module _ {n i : ℕ} {l row : List Float} (s : Square n l) (h : i < n) (e : row ≡ slice_range l (i * n) (i * n + i + 1)) where
  row-length : length row ≡ i + 1
  row-length =
      let a = i * n in
      rw e (length-take-le (a + i + 1 - a) (drop a l) (omega (arith, length-drop a l, s.len, cell_lt n i i h h)) ∙ omega arith)

  row-at : (j : ℕ) → j < i + 1 → get_or row j nan ≡ at n l i j
  row-at j p = let a = i * n in rw e (get_or-take (a + i + 1 - a) (drop a l) j nan (omega arith) ∙ get_or-drop a l j nan)

  pub first-in_lower_row : {r : ℕ} → r ≡ first_not_finite row → r ≡ first_in_row n l i
  first-in_lower_row f = f ∙ rw row-length (same_first (not_finite row) (λ j. not (finite (at n l i j))) (i + 1) (λ j p. ap (λ (v : Float). not (finite v)) (row-at j p)))

  pub lower-row_finite : {ok : Bool} → ok ≡ all 0 (length row) (λ j. finite (get_or row j nan)) → ok ≡ all 0 (i + 1) (λ j. finite (at n l i j))
  unfolding all
  lower-row_finite f = f ∙ rw row-length (same-loops 0 (i + 1) _ _ true (omega arith) (λ j p q t. ap (λ (v : Float). t && finite v) (row-at j q)))
