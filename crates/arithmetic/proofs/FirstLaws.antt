-- What the first position at which a test fails is.
use mathlib.Core.Path.{◌≡◌, refl, sym, ◌∙◌}
use mathlib.Core.Bool.{Bool, true, false, cond, false≢true}
use mathlib.Core.Logic.{inl, inr}
use Prim.Native.Nat.{ℕ, zero, suc, ◌+◌, ◌≤◌, ◌<◌}
use native.Mathlib.Nat.{eq-or-lt_of_le}
use native.Mathlib.Decide.{dec_le}
use native.Mathlib.Omega.{arith}
use Rattle.arithmetic.specs.First.{first_from, first}

-- what it is, of the positions from a on
pub record First (bad : ℕ → Bool) (a b r : ℕ) : Type 0 where
  pub from : a ≤ r
  pub most : r ≤ b
  pub good : (i : ℕ) → a ≤ i → i < r → bad i ≡ false
  pub here : r < b → bad r ≡ true

first_from-is : (bad : ℕ → Bool) (a k : ℕ) → First bad a (a + k) (first_from bad a k)
unfolding first_from
first_from-is bad a zero = record { from = omega arith; most = omega arith; good = λ i p q. absurd (omega arith); here = λ h. absurd (omega arith) }
first_from-is bad a (suc k) = go (bad a) refl (first_from-is bad (suc a) k)
  where
    go : (b : Bool) → bad a ≡ b → First bad (suc a) (suc a + k) (first_from bad (suc a) k) → First bad a (a + suc k) (cond b a (first_from bad (suc a) k))
    go true e F = record { from = omega arith; most = omega arith; good = λ i p q. absurd (omega arith); here = λ h. e }
    go false e F = record {
      from = omega (arith, F.from);
      most = omega (arith, F.most);
      good = λ i p q. elim (eq-or-lt_of_le p) [ inl z ↦ rw (← z) e | inr l ↦ F.good i l q ];
      here = λ h. F.here (omega arith);
    }

pub first-is : (bad : ℕ → Bool) (n : ℕ) → First bad 0 n (first bad n)
first-is bad n = let e : 0 + n ≡ n = omega arith in rw e at (first_from-is bad 0 n)

-- there is only one
first-unique : (bad : ℕ → Bool) (n r s : ℕ) → First bad 0 n r → First bad 0 n s → r ≤ s
first-unique bad n r s R S = elim (dec_le r s) [
  | yes p ↦ p
  | no q ↦ absurd (false≢true (sym (R.good s (omega arith) (omega arith)) ∙ S.here (omega (arith, R.most))))
]

pub first_found : (bad : ℕ → Bool) (n i : ℕ) → i < n → bad i ≡ true → ((k : ℕ) → k < i → bad k ≡ false) → first bad n ≡ i
first_found bad n i l b g =
    let F : First bad 0 n i = record { from = omega arith; most = omega arith; good = λ k p q. g k q; here = λ h. b } in
    omega (arith, first-unique bad n (first bad n) i (first-is bad n) F, first-unique bad n i (first bad n) F (first-is bad n))

pub first-none : (bad : ℕ → Bool) (n : ℕ) → ((k : ℕ) → k < n → bad k ≡ false) → first bad n ≡ n
first-none bad n g =
    let F : First bad 0 n n = record { from = omega arith; most = omega arith; good = λ k p q. g k q; here = λ h. absurd (omega arith) } in
    omega (arith, first-unique bad n (first bad n) n (first-is bad n) F, first-unique bad n n (first bad n) F (first-is bad n))

-- two searches whose tests say the same
same_from : (f g : ℕ → Bool) (a k : ℕ) → ((i : ℕ) → i < a + k → f i ≡ g i) → first_from f a k ≡ first_from g a k
unfolding first_from
same_from f g a zero e = refl
same_from f g a (suc k) e = rw (e a (omega arith), same_from f g (suc a) k (λ i h. e i (omega arith)))

pub same_first : (f g : ℕ → Bool) (n : ℕ) → ((i : ℕ) → i < n → f i ≡ g i) → first f n ≡ first g n
same_first f g n e = same_from f g 0 n (λ i h. e i (omega arith))
