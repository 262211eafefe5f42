-- The pivot that a search finds is a row, and pivots keep p a permutation of the rows.
use mathlib.Core.Path.{◌≡◌, sym, ap, ◌∙◌}
use mathlib.Core.Bool.{Bool, ◌&&◌}
use mathlib.Core.List.{List}
use Prim.Native.Nat.{ℕ, ◌+◌, ◌≤◌, ◌<◌}
use native.Mathlib.Omega.{arith}
use lib.ListN.{length, get_or, drop, length-drop}
use lib.Seq.{get_or-drop, ext_get_or}
use lib.Dec.{eqb, ltb}
use lib.Ieee.{Float, nan}
use Rattle.arithmetic.proofs.Cases.{is, holds, fails}
use Rattle.arithmetic.proofs.LoopLaws.{range-ind}
use Rattle.matrix.specs.Matrix.{at}
use Rattle.matrix.specs.Plain.{AllBelow}
use Rattle.matrix.specs.Table.{table}
use Rattle.matrix.proofs.TableLaws.{length-table, get_or-table}
use Rattle.matrix.specs.Search.{largest}
use Rattle.matrix.specs.declared.utils.Found.{Found}
use Rattle.matrix.proofs.SearchLaws.{largest-top}
use Rattle.matrix.proofs.SwapLaws.{transpose, transpose_lt, transpose_twice}
use Rattle.matrix.proofs.Bijection.{injective}
use Rattle.methods.specs.Reloading.{LoadOrder}
use Rattle.methods.specs.Result.{identity}
use Rattle.methods.specs.Statements.{diagonal, tied_with, look_number, smallest_number, number_at, pick, pivot_list}
use Rattle.methods.proofs.Moved.{length-pivot, get_or-pivot}
use Rattle.methods.proofs.Reordered.{Order}

pub length-diagonal : (n : ℕ) (m : List Float) → length (diagonal n m) ≡ n
unfolding diagonal
length-diagonal n m = length-table n (λ i. at n m i i)

pub look-below : (k : ℕ) (tied : ℕ → Bool) (number : ℕ → ℕ) (i best : ℕ) → i < k → best < k → look_number tied number i best < k
look-below k tied number i best h b = elim (is (tied i && ltb (number i) (number best))) [ holds e ↦ rw e h | fails e ↦ rw e b ]

smallest-below : (number : ℕ → ℕ) (magnitude : Bool) (c : List Float) (first : ℕ) → first < length c → smallest_number number magnitude c first < length c
unfolding smallest_number
smallest-below number magnitude c first h =
    let tied = tied_with magnitude c first in
    range-ind (λ i best. best < length c) 0 (length c) (look_number tied number) first (omega arith) h (λ i p q best b. look-below (length c) tied number i best q b)

module _ (numbers p : List ℕ) (magnitude : Bool) where
  pub pick-below : (values : List Float) (n j : ℕ) → length values ≡ n → j < n → j + (pick numbers p magnitude values j).index < n
  unfolding pick
  pick-below values n j e h =
      let c = drop j values in
      let first = (largest-top magnitude c (omega (arith, length-drop j values))).below in
      elim (is (eqb (length numbers) 0)) [
        | holds z ↦ rw z (omega (arith, length-drop j values, first))
        | fails z ↦ rw z (omega (arith, length-drop j values, smallest-below (λ i. number_at numbers p (j + i)) magnitude c (largest magnitude c).index first))
      ]

  pub diagonal-below : (n j : ℕ) (m : List Float) → j < n → j + (pick numbers p magnitude (diagonal n m) j).index < n
  diagonal-below n j m h = pick-below (diagonal n m) n j (length-diagonal n m) h

  -- .. as code finds it
  pub picked_below : (values : List Float) (n j : ℕ) (f : Found) → f ≡ pick numbers p magnitude values j → length values ≡ n → j < n → j + f.index < n
  picked_below values n j f e k h = rw e (pick-below values n j k h)

  -- the values before j are not looked at
  pub pick_same : (x y : List Float) (j : ℕ) → length x ≡ length y → ((i : ℕ) → j ≤ i → i < length x → get_or x i nan ≡ get_or y i nan) → pick numbers p magnitude x j ≡ pick numbers p magnitude y j
  unfolding pick
  pick_same x y j e h = rw (ext_get_or nan (drop j x) (drop j y) (simp length-drop (omega arith))
      (λ k p. get_or-drop j x k nan ∙ h (j + k) (omega arith) (omega (arith, length-drop j x)) ∙ sym (get_or-drop j y k nan)))

-- ---- p lists 0 to n - 1, each once
pub record Permuted (n : ℕ) (p : List ℕ) : Type 0 where
  pub len : length p ≡ n
  pub inverse : ℕ → ℕ
  pub order : Order n p inverse

pub permuted_below : (n : ℕ) (p : List ℕ) → Permuted n p → AllBelow n p
permuted_below n p P k h = P.order.to_high k (omega arith) (omega (arith, P.len))

-- .. so it is a load order
pub permuted_order : (n : ℕ) (p : List ℕ) → Permuted n p → LoadOrder n p
permuted_order n p P = record {
  len = P.len;
  below = λ i h. P.order.to_high i (omega arith) h;
  once = λ i k h l e. injective P.order i k (omega arith) h (omega arith) l e;
}

-- in order
identity-permutes : (n : ℕ) → Order n (table n (λ i. i)) (λ i. i)
identity-permutes n = record {
  to_low = λ i u w. omega arith;
  to_high = λ i u w. rw (get_or-table n (λ k. k) i 0 w) w;
  from_low = λ i u w. omega arith;
  from-high = λ i u w. w;
  to_from = λ i u w. get_or-table n (λ k. k) i 0 w;
  from-to = λ i u w. get_or-table n (λ k. k) i 0 w;
}

pub identity-permuted : (n : ℕ) → Permuted n (identity n)
identity-permuted n = record { len = length-table n (λ i. i); inverse = λ i. i; order = identity-permutes n }

-- a pivot keeps it so
pivot-permutes : (n j k : ℕ) (p : List ℕ) (q : ℕ → ℕ) → length p ≡ n → j + k < n → Order n p q → Order n (pivot_list 0 j k p) (λ r. transpose j (j + k) (q r))
pivot-permutes n j k p q h pk O = record {
  to_low = λ i u w. omega arith;
  to_high = λ i u w. rw (get_or-pivot 0 j k p i (omega arith)) (O.to_high (transpose j (j + k) i) (omega arith) (transpose_lt n j (j + k) i (omega arith) pk w));
  from_low = λ i u w. omega arith;
  from-high = λ i u w. transpose_lt n j (j + k) (q i) (omega arith) pk (O.from-high i u w);
  to_from = λ i u w. get_or-pivot 0 j k p (transpose j (j + k) (q i)) (omega arith) ∙ ap (λ (x : ℕ). get_or p x 0) (transpose_twice j (j + k) (q i)) ∙ O.to_from i u w;
  from-to = λ i u w.
      ap (λ (x : ℕ). transpose j (j + k) (q x)) (get_or-pivot 0 j k p i (omega arith))
      ∙ ap (transpose j (j + k)) (O.from-to (transpose j (j + k) i) (omega arith) (transpose_lt n j (j + k) i (omega arith) pk w))
      ∙ transpose_twice j (j + k) i;
}

pub pivot-permuted : (n j k : ℕ) (p : List ℕ) → j + k < n → Permuted n p → Permuted n (pivot_list 0 j k p)
pivot-permuted n j k p h P = record {
  len = length-pivot 0 j k p ∙ P.len;
  inverse = λ r. transpose j (j + k) (P.inverse r);
  order = pivot-permutes n j k p P.inverse P.len h P.order;
}
