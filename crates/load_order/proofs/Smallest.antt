-- The search by contract number: of the largest it finds the one with the smallest number. Where no two numbers are equal it goes along with
-- a bijection of the positions.
use mathlib.Core.Path.{◌≡◌, sym, ap, ◌∙◌}
use mathlib.Core.List.{List}
use mathlib.Core.Bool.{Bool, true, false, ◌&&◌, false≢true}
use Prim.Native.Nat.{ℕ, suc, ◌+◌, ◌≤◌, ◌<◌}
use native.Mathlib.Decide.{ℕ_discrete}
use native.Mathlib.Omega.{arith}
use lib.ListN.{length, get_or, drop}
use lib.Seq.{get_or-drop}
use lib.Dec.{ltb}
use borrow.Author.Tests.{ltb-true, ltb-false, ne_eqb}
use lib.Ieee.{Float, nan, lt, eq, is_nan}
use Rattle.arithmetic.proofs.Cases.{Is, is, holds, fails, not_holds}
use Rattle.arithmetic.proofs.LoopLaws.{range-ind}
use Rattle.arithmetic.proofs.OrderLaws.{and_1, and_2, lt-cotransitive, lt-total, eq_not_lt, eq_symmetric}
use Rattle.arithmetic.proofs.SignLaws.{abs-number}
use Rattle.matrix.specs.Search.{key, largest}
use Rattle.matrix.proofs.Bijection.{Bijection, inverse, Along, along_inverse}
use Rattle.matrix.proofs.SearchLaws.{candidate, Numbers, Top, largest-top, top_along}
use Rattle.methods.specs.Statements.{number_at, tied_with, look_number, smallest_number, pick}

-- ---- what is compared
pub key-number : (magnitude : Bool) (x : Float) → is_nan x ≡ false → is_nan (key magnitude x) ≡ false
unfolding key
key-number true x h = abs-number x h
key-number false x h = h

pub dropped : (magnitude : Bool) (j : ℕ) (values : List Float) (i : ℕ) → candidate magnitude (drop j values) i ≡ key magnitude (get_or values (j + i) nan)
dropped magnitude j values i = ap (key magnitude) (get_or-drop j values i nan)

-- ---- what equals a largest is one
module _ (f : ℕ → Float) (k : ℕ) (nn : Numbers f k) where
  tops_equal : (u v : ℕ) → Top f k u → Top f k v → eq (f u) (f v) ≡ true
  tops_equal u v U W = lt-total (f u) (f v) (nn u U.below) (nn v W.below) (U.top v W.below) (W.top u U.below)

  pub top_of_equal : (u v : ℕ) → Top f k u → v < k → eq (f u) (f v) ≡ true → Top f k v
  top_of_equal u v U q e = record {
    below = q;
    top = λ i l. not_holds (lt (f v) (f i)) (λ w. false≢true (sym (U.top i l) ∙ lt-cotransitive (f v) (f u) (f i) (nn u U.below) w (eq_not_lt (f v) (f u) (eq_symmetric (f u) (f v) e))));
  }

-- ---- u holds the largest of f 0 to f (k - 1), and the smallest number of those before t that do
pub record Smallest (f : ℕ → Float) (number : ℕ → ℕ) (k t u : ℕ) : Type 0 where
  pub is_top : Top f k u
  pub least : (i : ℕ) → i < t → Top f k i → number u ≤ number i

not_both : (a b : Bool) → (a && b) ≡ false → a ≡ true → b ≡ false
not_both true b e h = e
not_both false b e h = absurd (false≢true h)

module _ (number : ℕ → ℕ) (magnitude : Bool) (c : List Float) (h : 0 < length c) (nn : Numbers (candidate magnitude c) (length c)) where
  abbrev f : ℕ → Float
  f i = candidate magnitude c i

  abbrev u : ℕ
  u = (largest magnitude c).index

  look-step : (i : ℕ) → i < length c → (best : ℕ) → Smallest f number (length c) i best → Smallest f number (length c) (suc i) (look_number (tied_with magnitude c u) number i best)
  look-step i q best S = go (is (tied_with magnitude c u i && ltb (number i) (number best)))
    where
      U : Top f (length c) u
      U = largest-top magnitude c h

      go : Is (tied_with magnitude c u i && ltb (number i) (number best)) → Smallest f number (length c) (suc i) (look_number (tied_with magnitude c u) number i best)
      go (holds e) =
          let l : number i < number best = ltb-true (number i) (number best) (and_2 (tied_with magnitude c u i) (ltb (number i) (number best)) e) in
          rw e (record {
            is_top = top_of_equal f (length c) nn u i U q (and_1 (tied_with magnitude c u i) (ltb (number i) (number best)) e);
            least = λ k w K. elim (ℕ_discrete k i) [ yes d ↦ omega (arith, ap number d) | no d ↦ omega (arith, S.least k (omega arith) K) ];
          })
      go (fails e) = rw e (record {
        is_top = S.is_top;
        least = λ k w K. elim (ℕ_discrete k i) [
          | yes d ↦ rw d (ltb-false (number i) (number best) (not_both (tied_with magnitude c u i) (ltb (number i) (number best)) e (tops_equal f (length c) nn u i U (rw d at K))))
          | no d ↦ S.least k (omega arith) K
        ];
      })

  pub smallest-is : Smallest f number (length c) (length c) (smallest_number number magnitude c u)
  unfolding smallest_number
  smallest-is = range-ind (Smallest f number (length c)) 0 (length c) (look_number (tied_with magnitude c u) number) u (omega arith)
      (record { is_top = largest-top magnitude c h; least = λ i q. absurd (omega arith) }) (λ i p q best S. look-step i q best S)

pub pick-smallest : (numbers p : List ℕ) (magnitude : Bool) (values : List Float) (j : ℕ) → 0 < length numbers
    → (pick numbers p magnitude values j).index ≡ smallest_number (λ i. number_at numbers p (j + i)) magnitude (drop j values) (largest magnitude (drop j values)).index
unfolding pick
pick-smallest numbers p magnitude values j h = rw (ne_eqb (length numbers) 0 (λ z. omega arith))

-- ---- along a bijection, each position with its number
module _ (k : ℕ) (σ τ : ℕ → ℕ) (f g : ℕ → Float) (number number' : ℕ → ℕ) (B : Bijection 0 k σ τ) (A : Along 0 k σ f g) (N : Along 0 k σ number number')
    (once : (x y : ℕ) → x < k → y < k → number x ≡ number y → x ≡ y) where
  pub smallest-along : (u w : ℕ) → Smallest f number k k u → Smallest g number' k k w → σ w ≡ u
  smallest-along u w U W =
      let S : Top f k (σ w) = top_along k σ τ f g B A w W.is_top in
      let T : Top g k (τ u) = top_along k τ σ g f (inverse B) (along_inverse f g B A) u U.is_top in
      let a : number u ≤ number (σ w) = U.least (σ w) S.below S in
      let b : number' w ≤ number' (τ u) = W.least (τ u) T.below T in
      let e : number' w ≡ number (σ w) = N w (omega arith) W.is_top.below in
      let d : number' (τ u) ≡ number u = N (τ u) (omega arith) T.below ∙ ap number (B.to_from u (omega arith) U.is_top.below) in
      once (σ w) u S.below U.is_top.below (omega arith)
