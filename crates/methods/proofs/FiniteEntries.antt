-- Matrices whose entries are all finite: kept by pivots, by ones on the diagonal, and by +0.0 above it.
use mathlib.Core.Path.{◌≡◌, refl, sym, ◌∙◌}
use mathlib.Core.List.{List}
use mathlib.Core.Bool.{true}
use Prim.Native.Nat.{ℕ, suc, ◌+◌, ◌-◌, ◌≤◌, ◌<◌}
use native.Mathlib.Decide.{ℕ_discrete, dec_lt}
use native.Mathlib.Omega.{arith}
use lib.Ieee.{Float, of_bits}
use lib.Ieee.Scale.{finite}
use Rattle.arithmetic.specs.Double.{plus_zero, one}
use Rattle.arithmetic.specs.Loop.{range}
use Rattle.arithmetic.proofs.LoopLaws.{range-ind}
use Rattle.matrix.specs.Checks.{AllFinite}
use Rattle.matrix.specs.Matrix.{at, put}
use Rattle.matrix.proofs.EntryLaws.{Entries, same_entries}
use Rattle.matrix.proofs.SwapLaws.{transpose, transpose_lt}
use Rattle.methods.specs.Gmw81.{unit_lower}
use Rattle.methods.specs.Statements.{pivot_matrix, clear_after, lower_triangle}
use Rattle.methods.specs.Elimination.{Stored}
use Rattle.methods.proofs.Moved.{pivot-entries, pivot-at}
use Rattle.methods.proofs.Stored.{stored}

pub record FiniteEntries (n : ℕ) (m : List Float) : Type 0 where
  pub entries : Entries n m
  pub each : AllFinite n m

pub zero_finite : finite plus_zero ≡ true
unfolding of_bits
zero_finite = refl

one-finite : finite one ≡ true
unfolding of_bits
one-finite = refl

pub pivot-finite : (n j k : ℕ) (m : List Float) → j < n → j + k < n → FiniteEntries n m → FiniteEntries n (pivot_matrix n j k m)
pivot-finite n j k m pj pk F = record {
  entries = pivot-entries n j k m F.entries pj pk;
  each = λ x y px py. rw (pivot-at n j k m F.entries pj pk x y px py)
      (F.each (transpose j (j + k) x) (transpose j (j + k) y) (transpose_lt n j (j + k) x pj pk px) (transpose_lt n j (j + k) y pj pk py));
}

-- ---- ones on the diagonal
abbrev with_ones : ℕ → List Float → List Float
with_ones n l = range 0 n (λ i m. put n m i i one) l

ones_finite : (n : ℕ) (l : List Float) → FiniteEntries n l → FiniteEntries n (with_ones n l)
ones_finite n l F = record {
  entries = S.entries;
  each = λ x y px py. elim (ℕ_discrete x y) [
    | yes e ↦ rw (sym e, S.done x (omega arith) px) one-finite
    | no e ↦ rw (S.rest x y px py (λ k u w g h. e (g ∙ sym h))) (F.each x y px py)
  ];
}
  where
    S : Stored n 0 (λ i. i) (λ i. i) (λ i. one) l n (with_ones n l)
    S = stored n 0 n (λ i. i) (λ i. i) (λ i m. one) (λ i. one) l (omega arith) F.entries (λ i p q. q) (λ i p q. q) (λ i k p q u w e f. e) (λ i p q m r. refl)

-- ---- rows 0 to t - 1 are +0.0 after the diagonal, and the rest is m₀'s
record Cleared (n : ℕ) (m₀ : List Float) (t : ℕ) (m : List Float) : Type 0 where
  entries : Entries n m
  zero_above : (x y : ℕ) → x < t → x < y → y < n → at n m x y ≡ plus_zero
  rest : (x y : ℕ) → x < n → y < n → (x < t → x < y → ⊥) → at n m x y ≡ at n m₀ x y

row_cleared : (n i : ℕ) (m : List Float) → i < n → Entries n m → Stored n (i + 1) (λ k. i) (λ k. k) (λ k. plus_zero) m n (clear_after n i m)
unfolding clear_after
row_cleared n i m pi h = stored n (i + 1) n (λ k. i) (λ k. k) (λ k x. plus_zero) (λ k. plus_zero) m (omega arith) h
    (λ k p q. pi) (λ k p q. q) (λ k l p q u w e f. f) (λ k p q x r. refl)

clear_step : (n : ℕ) (m₀ : List Float) (i : ℕ) → i < n → (m : List Float) → Cleared n m₀ i m → Cleared n m₀ (suc i) (clear_after n i m)
clear_step n m₀ i pi m C =
    let S = row_cleared n i m pi C.entries in
    record {
      entries = S.entries;
      zero_above = λ x y p q r. elim (ℕ_discrete x i) [
        | yes e ↦ rw e (S.done y (omega arith) r)
        | no e ↦ S.rest x y (omega arith) r (λ k u w g h. e g) ∙ C.zero_above x y (omega arith) q r
      ];
      rest = λ x y px py h. S.rest x y px py (λ k u w g f. h (omega arith) (omega arith)) ∙ C.rest x y px py (λ a b. h (omega arith) b);
    }

triangle_cleared : (n : ℕ) (m : List Float) → Entries n m → Cleared n m (n - 1) (lower_triangle n m)
unfolding lower_triangle
triangle_cleared n m h = range-ind (Cleared n m) 0 (n - 1) (clear_after n) m (omega arith)
    (record { entries = h; zero_above = λ x y p. absurd (omega arith); rest = λ x y px py k. refl })
    (λ i p q x C. clear_step n m i (omega arith) x C)

pub triangle_above : (n : ℕ) (m : List Float) → Entries n m → (x y : ℕ) → x < y → y < n → at n (lower_triangle n m) x y ≡ plus_zero
triangle_above n m h x y p q = (triangle_cleared n m h).zero_above x y (omega arith) p q

-- what stands above the diagonal doesn't matter
pub triangle_same : (n : ℕ) (A B : List Float) → Entries n A → Entries n B → ((x y : ℕ) → x < n → y ≤ x → at n A x y ≡ at n B x y) → lower_triangle n A ≡ lower_triangle n B
triangle_same n A B a b e =
    let C = triangle_cleared n A a in
    let D = triangle_cleared n B b in
    same_entries n (lower_triangle n A) (lower_triangle n B) C.entries D.entries (λ x y px py. elim (dec_lt x y) [
      | yes p ↦ C.zero_above x y (omega arith) p py ∙ sym (D.zero_above x y (omega arith) p py)
      | no p ↦ C.rest x y px py (λ u w. p w) ∙ e x y px (omega arith) ∙ sym (D.rest x y px py (λ u w. p w))
    ])

pub triangle_finite : (n : ℕ) (m : List Float) → FiniteEntries n m → FiniteEntries n (lower_triangle n m)
triangle_finite n m F =
    let C = triangle_cleared n m F.entries in
    record {
      entries = C.entries;
      each = λ x y px py. elim (dec_lt x y) [
        | yes p ↦ rw (C.zero_above x y (omega arith) p py) zero_finite
        | no p ↦ rw (C.rest x y px py (λ a b. p b)) (F.each x y px py)
      ];
    }

-- ---- GMW81's factor before it is scaled
pub unit_lower_above : (n : ℕ) (l : List Float) → FiniteEntries n l → (x y : ℕ) → x < y → y < n → at n (unit_lower n l) x y ≡ plus_zero
unfolding unit_lower
unit_lower_above n l F = triangle_above n (with_ones n l) (ones_finite n l F).entries

pub unit_lower_finite : (n : ℕ) (l : List Float) → FiniteEntries n l → FiniteEntries n (unit_lower n l)
unfolding unit_lower
unit_lower_finite n l F = triangle_finite n (with_ones n l) (ones_finite n l F)
