-- A fold over counted indices is the loop over them.
use mathlib.Core.Path.{◌≡◌, refl, sym, ap, ◌∙◌}
use Prim.Native.Nat.{ℕ, zero, suc, ◌+◌, ◌-◌, ◌≤◌, ◌<◌}
use mathlib.Core.Bool.{cond, true, false}
use mathlib.Core.List.{List, map}
use native.Mathlib.Omega.{arith}
use lib.Ieee.{Float, inf, of_bits, binary64, lt}
use Rattle.std.specs.List.{fold, range_with_len}
use Rattle.std.proofs.lemmas.List.Folds.{fold-map}
use Rattle.arithmetic.specs.Loop.{range}
use Rattle.arithmetic.proofs.LoopLaws.{range_none, range-more, range-ind}
use Rattle.matrix.specs.Matrix.{at}
use Rattle.methods.specs.Se.{fold_next, tmp_of, aii_max, aii_min}

module _ {S : Type 0} (body : ℕ → S → S) where
  first_turn : (a b : ℕ) (s : S) → a < b → range a b body s ≡ range (a + 1) b body (body a s)
  first_turn a b s h =
      range-ind (λ i t. range a i body s ≡ t) (a + 1) b body (body a s) (omega arith) (range-more a a body s (omega arith) ∙ ap (body a) (range_none a a body s (omega arith)))
      (λ i u w t p. let e : suc i ≡ i + 1 = omega arith in rw e (range-more a i body s (omega arith) ∙ ap (body i) p))

  counted : (a m : ℕ) (s : S) → fold (λ t i. body i t) s (range_with_len a m) ≡ range a (a + m) body s
  counted a zero s = sym (range_none a (a + 0) body s (omega arith))
  counted a (suc m) s = let e : (a + 1) + m ≡ a + suc m = omega arith in let k : fold (λ t i. body i t) (body a s) (range_with_len (a + 1) m) ≡ range (a + 1) (a + suc m) body (body a s) = rw e at (counted (a + 1) m (body a s)) in k ∙ sym (first_turn a (a + suc m) s (omega arith))

  pub fold-range : (a b : ℕ) (s : S) → a ≤ b → fold (λ t i. body i t) s (range_with_len a (b - a)) ≡ range a b body s
  fold-range a b s h = let e : a + (b - a) ≡ b = omega arith in rw e at (counted a (b - a) s)

-- ---- the folds of phase one's tests; f64::INFINITY and f64::NEG_INFINITY
abbrev pub infinity : Float
infinity = of_bits binary64 0x7ff0000000000000

abbrev pub minus-infinity : Float
minus-infinity = of_bits binary64 0xfff0000000000000

infinity_is : infinity ≡ inf false
unfolding of_bits
infinity_is = refl

minus-infinity_is : minus-infinity ≡ inf true
unfolding of_bits
minus-infinity_is = refl

abbrev pub larger : Float → Float → Float
larger acc x = cond (lt acc x) x acc

abbrev pub smaller : Float → Float → Float
smaller acc x = cond (lt x acc) x acc

module _ (n j : ℕ) (l : List Float) (h : j < n) where
  diagonal-fold : (choose : Float → Float → Float) (start : Float) → fold choose start (map (λ i. at n l i i) (range_with_len j (n - j))) ≡ range j n (λ i acc. choose acc (at n l i i)) start
  diagonal-fold choose start = fold-map choose (λ i. at n l i i) start (range_with_len j (n - j)) ∙ fold-range (λ i acc. choose acc (at n l i i)) j n start (omega arith)

  pub tmp_of-is : {r : Float} → r ≡ fold (λ acc i. fold_next n j l i acc) infinity (range_with_len (j + 1) (n - (j + 1))) → r ≡ tmp_of n j l
  unfolding tmp_of
  tmp_of-is e = e ∙ fold-range (fold_next n j l) (j + 1) n infinity (omega arith) ∙ ap (range (j + 1) n (fold_next n j l)) infinity_is

  pub aii_max-is : {r : Float} → r ≡ fold larger minus-infinity (map (λ i. at n l i i) (range_with_len j (n - j))) → r ≡ aii_max n j l
  unfolding aii_max
  aii_max-is e = e ∙ diagonal-fold larger minus-infinity ∙ ap (range j n (λ i acc. larger acc (at n l i i))) minus-infinity_is

  pub aii_min-is : {r : Float} → r ≡ fold smaller infinity (map (λ i. at n l i i) (range_with_len j (n - j))) → r ≡ aii_min n j l
  unfolding aii_min
  aii_min-is e = e ∙ diagonal-fold smaller infinity ∙ ap (range j n (λ i acc. smaller acc (at n l i i))) infinity_is
