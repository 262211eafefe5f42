-- A load order has an inverse.
use mathlib.Core.Path.{◌≡◌, refl, sym, ap, ◌∙◌}
use mathlib.Core.List.{List}
use mathlib.Core.Bool.{false≢true}
use Prim.Native.Nat.{ℕ, zero, suc, ◌<◌}
use native.Mathlib.Decide.{ℕ_discrete, dec_lt}
use native.Mathlib.Omega.{arith}
use lib.ListN.{get_or}
use lib.Dec.{eqb}
use borrow.Author.Tests.{eq-eqb, eqb-true}
use Rattle.arithmetic.specs.First.{first as first_of}
use Rattle.arithmetic.proofs.FirstLaws.{first-is}
use Rattle.matrix.proofs.SwapLaws.{transpose, transposed, first, second, other, transpose_second, transpose_twice}
use Rattle.matrix.proofs.Bijection.{Bijection}
use Rattle.methods.specs.Reloading.{LoadOrder}

abbrev Injective : ℕ → (ℕ → ℕ) → Type 0
Injective n f = (i k : ℕ) → i < n → k < n → f i ≡ f k → i ≡ k

-- f with m taken out: what is sent to m goes where m was sent
abbrev without : (ℕ → ℕ) → ℕ → ℕ → ℕ
without f m i = transpose (f m) m (f i)

module _ (m : ℕ) (f : ℕ → ℕ) (b : (i : ℕ) → i < suc m → f i < suc m) (inj : Injective (suc m) f) where
  apart : (i : ℕ) → i < m → f i ≡ f m → ⊥
  apart i p e = omega (arith, inj i m (omega arith) (omega arith) e)

  without_below : (i : ℕ) → i < m → without f m i < m
  without_below i p = elim (transposed (f m) m (f i)) [
    | first e q ↦ absurd (apart i p e)
    | second e q ↦ elim (ℕ_discrete (f m) m) [ yes d ↦ absurd (apart i p (e ∙ sym d)) | no d ↦ omega (arith, b m (omega arith)) ]
    | other c d q ↦ omega (arith, b i (omega arith))
  ]

  without_injective : Injective m (without f m)
  without_injective i k p q e = inj i k (omega arith) (omega arith) (sym (transpose_twice (f m) m (f i)) ∙ ap (transpose (f m) m) e ∙ transpose_twice (f m) m (f k))

  value_below : (v : ℕ) → v < suc m → (transpose (f m) m v ≡ m → ⊥) → transpose (f m) m v < m
  value_below v h d = elim (transposed (f m) m v) [
    | first e q ↦ absurd (d q)
    | second e q ↦ elim (ℕ_discrete (f m) m) [ yes c ↦ absurd (d (q ∙ c)) | no c ↦ omega (arith, b m (omega arith)) ]
    | other c e q ↦ omega arith
  ]

-- n distinct numbers below n are all of them
reached : (n : ℕ) (f : ℕ → ℕ) → ((i : ℕ) → i < n → f i < n) → Injective n f → (v : ℕ) → v < n → (i : ℕ) × (i < n) × (f i ≡ v)
reached zero f b inj v h = absurd (omega arith)
reached (suc m) f b inj v h = elim (ℕ_discrete (transpose (f m) m v) m) [
  | yes e ↦ (m, omega arith, sym (transpose_second (f m) m m refl) ∙ ap (transpose (f m) m) (sym e) ∙ transpose_twice (f m) m v)
  | no d ↦
      let r = reached m (without f m) (without_below m f b inj) (without_injective m f b inj) (transpose (f m) m v) (value_below m f b inj v h d) in
      (r.0, omega (arith, r.1), sym (transpose_twice (f m) m (f r.0)) ∙ ap (transpose (f m) m) r.2 ∙ transpose_twice (f m) m v)
]

-- ---- the inverse of a load order: the first position at which a number stands
abbrev pub order : List ℕ → ℕ → ℕ
order s i = get_or s i 0

unfoldable pub position : ℕ → List ℕ → ℕ → ℕ
position n s v = first_of (λ i. eqb (get_or s i 0) v) n

pub order-bijection : (n : ℕ) (s : List ℕ) → LoadOrder n s → Bijection 0 n (order s) (position n s)
unfolding position
order-bijection n s L = record {
  to_low = λ i p q. omega arith;
  to_high = λ i p q. L.below i q;
  from_low = λ i p q. omega arith;
  from-high = λ v p q. (found v q).0;
  to_from = λ v p q. (found v q).1;
  from-to = λ i p q. let r = found (order s i) (L.below i q) in L.once (position n s (order s i)) i r.0 q r.1;
}
  where
    found : (v : ℕ) → v < n → (position n s v < n) × (order s (position n s v) ≡ v)
    found v h =
        let r = reached n (order s) L.below L.once v h in
        let F = first-is (λ i. eqb (get_or s i 0) v) n in
        let l : position n s v < n = elim (dec_lt (position n s v) n) [
          | yes p ↦ p
          | no q ↦ absurd (false≢true (sym (F.good r.0 (omega arith) (omega (arith, r.1))) ∙ eq-eqb (get_or s r.0 0) v r.2))
        ] in
        (l, eqb-true (order s (position n s v)) v (F.here l))
