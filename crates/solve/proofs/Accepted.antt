-- The checks of a solve call pass exactly where its operands are accepted.
use mathlib.Core.Path.{◌≡◌, ap}
use mathlib.Core.Bool.{true, false, not}
use mathlib.Core.List.{List}
use Prim.Native.Nat.{ℕ, ◌+◌, ◌*◌, ◌≤◌, ◌<◌}
use native.Mathlib.Omega.{arith}
use lib.Dec.{leb}
use lib.ListN.{length, get_or}
use lib.Ieee.{Float, eq}
use lib.Ieee.Scale.{finite}
use borrow.Author.Tests.{not-false, leb-false, lt-leb}
use Rattle.arithmetic.specs.Double.{plus_zero}
use Rattle.arithmetic.specs.declared.refusal.Refusal.TheVariants.{MatrixLength, BufferLength, IndexOutOfRange, NotFinite, NumberRepeated, ListLength, ZeroDiagonal}
use Rattle.arithmetic.proofs.FirstLaws.{first-is, first-none}
use Rattle.arithmetic.proofs.OrderLaws.{or_1, or_2}
use Rattle.matrix.specs.Checks.{out_of_range, came_before, first_repeated, not_finite, Distinct}
use Rattle.matrix.specs.Matrix.{at}
use Rattle.matrix.specs.Plain.{AllBelow}
use Rattle.matrix.proofs.CheckLaws.{Accepted, both_accepted, then_accepted, size_passes, length-passes, none_found, none_passes, size_accepted, matrix-accepted, buffer_accepted, list_accepted, finite_accepted, distinct-accepted, distinct-passes}
use Rattle.solve.specs.Accepted.{AcceptedSolve, SolveAcceptedTheorem}
use Rattle.solve.specs.Checks.{check_order, check_lower, check_divisors, wrong_index, first_wrong, first_in_row, first_zero}
use Rattle.solve.specs.Substitution.{length_checks, content_checks}

-- ---- each check that is a search
module _ (n : ℕ) (p : List ℕ) where
  pub order-accepted : Accepted (check_order n p) → AllBelow n p × Distinct p
  order-accepted h =
      let good = none_found (wrong_index n p) (length p) (IndexOutOfRange (first_wrong n p)) h in (
        λ k q. leb-false n (get_or p k 0) (or_1 (out_of_range n p k) (came_before p k) (good k q)),
        distinct-accepted p (none_passes (came_before p) (length p) (NumberRepeated (first_repeated p)) (λ k q. or_2 (out_of_range n p k) (came_before p k) (good k q))),
      )

  pub order-passes : AllBelow n p → Distinct p → Accepted (check_order n p)
  order-passes B D =
      let once = none_found (came_before p) (length p) (NumberRepeated (first_repeated p)) (distinct-passes p D) in
      none_passes (wrong_index n p) (length p) (IndexOutOfRange (first_wrong n p)) (λ k q. rw (lt-leb n (get_or p k 0) (B k q), once k q))

module _ (n : ℕ) (l : List Float) where
  pub lower-accepted : Accepted (check_lower n l) → (i j : ℕ) → i < n → j ≤ i → finite (at n l i j) ≡ true
  lower-accepted h i j p q =
      let row : leb (first_in_row n l i) i ≡ false = none_found (λ i. leb (first_in_row n l i) i) n _ h i p in
      not-false (finite (at n l i j)) ((first-is (λ j. not (finite (at n l i j))) (i + 1)).good j (omega arith) (omega (arith, leb-false (first_in_row n l i) i row)))

  lower-passes : ((i j : ℕ) → i < n → j ≤ i → finite (at n l i j) ≡ true) → Accepted (check_lower n l)
  lower-passes f = none_passes (λ i. leb (first_in_row n l i) i) n _ (λ i p. lt-leb (first_in_row n l i) i (omega (arith, first-none (λ j. not (finite (at n l i j))) (i + 1) (λ j q. ap not (f i j p (omega arith))))))

  divisors-accepted : Accepted (check_divisors n l) → (i : ℕ) → i < n → eq (at n l i i) plus_zero ≡ false
  divisors-accepted h = none_found (λ i. eq (at n l i i) plus_zero) n (ZeroDiagonal (first_zero n l)) h

-- ---- both directions
module _ (n : ℕ) (l : List Float) (y : ℕ) (p : List ℕ) (b : List Float) where
  passed : Accepted (length_checks n (length l) y (length p) (length b)) → Accepted (content_checks n l p b) → AcceptedSolve n l y p b
  passed h k =
      let h₄ = both_accepted _ _ h in
      let h₃ = both_accepted _ _ h₄.0 in
      let h₂ = both_accepted _ _ h₃.0 in
      let h₁ = both_accepted _ _ h₂.0 in
      let k₃ = both_accepted _ _ k in
      let k₂ = both_accepted _ _ k₃.0 in
      let k₁ = both_accepted _ _ k₂.0 in
      let size = size_accepted n h₁.0 in
      let b_is = list_accepted n (length b) h₄.1 in
      let order = order-accepted n p k₁.0 in
      record {
        rows_from = size.0;
        rows_to = size.1;
        l_is = matrix-accepted n (length l) h₁.1;
        y_is = buffer_accepted n y h₂.1;
        p_is = list_accepted n (length p) h₃.1;
        b_is = b_is;
        below = order.0;
        once = order.1;
        lower = lower-accepted n l k₁.1;
        right = λ i q. finite_accepted 1 b k₂.1 i (omega arith);
        divisors = divisors-accepted n l k₃.1;
      }

  lengths_pass : AcceptedSolve n l y p b → Accepted (length_checks n (length l) y (length p) (length b))
  lengths_pass A =
      let sized = then_accepted (size_passes n A.rows_from A.rows_to) (length-passes (n * n) (length l) MatrixLength A.l_is) in
      let lent = then_accepted sized (length-passes n y BufferLength A.y_is) in
      then_accepted (then_accepted lent (length-passes n (length p) ListLength A.p_is)) (length-passes n (length b) ListLength A.b_is)

  contents_pass : AcceptedSolve n l y p b → Accepted (content_checks n l p b)
  contents_pass A =
      let right = none_passes (not_finite b) (length b) (NotFinite _ _) (λ k q. ap not (A.right k (omega (arith, A.b_is)))) in
      let lower = then_accepted (order-passes n p A.below A.once) (lower-passes n l A.lower) in
      then_accepted (then_accepted lower right) (none_passes (λ i. eq (at n l i i) plus_zero) n (ZeroDiagonal (first_zero n l)) A.divisors)

pub solve-accepted : SolveAcceptedTheorem
solve-accepted n l y p b = (
  λ h. let c = both_accepted _ _ (record { is = h }) in passed n l y p b c.0 c.1,
  λ A. (then_accepted (lengths_pass n l y p b A) (contents_pass n l y p b A)).is,
)
