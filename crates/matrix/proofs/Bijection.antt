-- Bijections of the positions a to b - 1, and tests and folds along them.
use mathlib.Core.Path.{◌≡◌, refl, sym, ap, ◌∙◌}
use Prim.Native.Nat.{ℕ, ◌+◌, ◌-◌, ◌≤◌, ◌<◌}
use native.Mathlib.Decide.{dec_lt, ℕ_discrete}
use native.Mathlib.Omega.{arith}
use Rattle.matrix.proofs.SwapLaws.{transpose, transpose_first, transpose_second, transpose_low, transpose_lt, transpose_twice}

-- ---- σ and τ are each other's inverses
pub record Bijection (a b : ℕ) (σ τ : ℕ → ℕ) : Type 0 where
  pub to_low : (i : ℕ) → a ≤ i → i < b → a ≤ σ i
  pub to_high : (i : ℕ) → a ≤ i → i < b → σ i < b
  pub from_low : (i : ℕ) → a ≤ i → i < b → a ≤ τ i
  pub from-high : (i : ℕ) → a ≤ i → i < b → τ i < b
  pub to_from : (i : ℕ) → a ≤ i → i < b → σ (τ i) ≡ i
  pub from-to : (i : ℕ) → a ≤ i → i < b → τ (σ i) ≡ i

pub inverse : {a b : ℕ} {σ τ : ℕ → ℕ} → Bijection a b σ τ → Bijection a b τ σ
inverse B = record { to_low = B.from_low; to_high = B.from-high; from_low = B.to_low; from-high = B.to_high; to_from = B.from-to; from-to = B.to_from }

pub injective : {a b : ℕ} {σ τ : ℕ → ℕ} → Bijection a b σ τ → (x y : ℕ) → a ≤ x → x < b → a ≤ y → y < b → σ x ≡ σ y → x ≡ y
injective {a} {b} {σ} {τ} B x y ax xb ay yb e = sym (B.from-to x ax xb) ∙ ap τ e ∙ B.from-to y ay yb

-- g is f through σ
abbrev pub Along : {A : Type 0} → ℕ → ℕ → (ℕ → ℕ) → (ℕ → A) → (ℕ → A) → Type 0
Along a b σ f g = (i : ℕ) → a ≤ i → i < b → g i ≡ f (σ i)

pub along_inverse : {A : Type 0} {a b : ℕ} {σ τ : ℕ → ℕ} (f g : ℕ → A) → Bijection a b σ τ → Along a b σ f g → Along a b τ g f
along_inverse {A} {a} {b} {σ} {τ} f g B G i p q = sym (G (τ i) (B.from_low i p q) (B.from-high i p q) ∙ ap f (B.to_from i p q))

-- ---- what fixes the positions below j is a bijection of the rest
abbrev pub Fixes : ℕ → ℕ → (ℕ → ℕ) → Type 0
Fixes n j σ = (t : ℕ) → t < j → t < n → σ t ≡ t

pub fixes_inverse : (n j : ℕ) (σ τ : ℕ → ℕ) → Bijection 0 n σ τ → Fixes n j σ → Fixes n j τ
fixes_inverse n j σ τ B f t a b = ap τ (sym (f t a b)) ∙ B.from-to t (omega arith) b

pub stays_above : (n j : ℕ) (σ τ : ℕ → ℕ) → Bijection 0 n σ τ → Fixes n j σ → (x : ℕ) → j ≤ x → x < n → j ≤ σ x
stays_above n j σ τ B f x a b = elim (dec_lt (σ x) j) [
  | yes p ↦
      let e : τ (σ (σ x)) ≡ τ (σ x) = ap τ (f (σ x) p (B.to_high x (omega arith) b)) in
      let u : τ (σ (σ x)) ≡ σ x = B.from-to (σ x) (omega arith) (B.to_high x (omega arith) b) in
      let v : τ (σ x) ≡ x = B.from-to x (omega arith) b in
      omega arith
  | no q ↦ omega arith
]

pub stays_after : (n j : ℕ) (σ τ : ℕ → ℕ) → Bijection 0 n σ τ → Fixes n (j + 1) σ → (x : ℕ) → j < x → x < n → j < σ x
stays_after n j σ τ B f x a b = omega (arith, stays_above n (j + 1) σ τ B f x (omega arith) b)

pub bijection_from : (n j : ℕ) (σ τ : ℕ → ℕ) → Bijection 0 n σ τ → Fixes n j σ → Bijection j n σ τ
bijection_from n j σ τ B f = record {
  to_low = stays_above n j σ τ B f;
  to_high = λ i p q. B.to_high i (omega arith) q;
  from_low = stays_above n j τ σ (inverse B) (fixes_inverse n j σ τ B f);
  from-high = λ i p q. B.from-high i (omega arith) q;
  to_from = λ i p q. B.to_from i (omega arith) q;
  from-to = λ i p q. B.from-to i (omega arith) q;
}

-- ---- counted from j
abbrev pub counted : ℕ → (ℕ → ℕ) → ℕ → ℕ
counted j σ i = σ (j + i) - j

pub bijection_counted : (n j : ℕ) (σ τ : ℕ → ℕ) → Bijection j n σ τ → Bijection 0 (n - j) (counted j σ) (counted j τ)
bijection_counted n j σ τ B = record {
  to_low = λ i p q. omega arith;
  to_high = λ i p q. omega (arith, B.to_high (j + i) (omega arith) (omega arith), B.to_low (j + i) (omega arith) (omega arith));
  from_low = λ i p q. omega arith;
  from-high = λ i p q. omega (arith, B.from-high (j + i) (omega arith) (omega arith), B.from_low (j + i) (omega arith) (omega arith));
  to_from = λ i p q. back σ τ B i q;
  from-to = λ i p q. back τ σ (inverse B) i q;
}
  where
    back : (σ τ : ℕ → ℕ) → Bijection j n σ τ → (i : ℕ) → i < n - j → counted j σ (counted j τ i) ≡ i
    back σ τ B i q =
        let l : j ≤ τ (j + i) = B.from_low (j + i) (omega arith) (omega arith) in
        let e : j + (τ (j + i) - j) ≡ τ (j + i) = omega arith in
        ap (λ (x : ℕ). σ x - j) e ∙ omega (arith, B.to_from (j + i) (omega arith) (omega arith))

-- ---- after a swap of the pivots a and b with j
abbrev pub turned : ℕ → ℕ → ℕ → (ℕ → ℕ) → ℕ → ℕ
turned j a b σ x = transpose j a (σ (transpose j b x))

pub turned_lt : (n j a b : ℕ) (σ τ : ℕ → ℕ) → Bijection 0 n σ τ → j < n → a < n → b < n → (i : ℕ) → i < n → turned j a b σ i < n
turned_lt n j a b σ τ B pj pa pb i q = transpose_lt n j a (σ (transpose j b i)) pj pa (B.to_high (transpose j b i) (omega arith) (transpose_lt n j b i pj pb q))

turned_back : (n j a b : ℕ) (σ τ : ℕ → ℕ) → Bijection 0 n σ τ → j < n → a < n → b < n → (i : ℕ) → i < n → turned j a b σ (turned j b a τ i) ≡ i
turned_back n j a b σ τ B pj pa pb i q =
    ap (λ (z : ℕ). transpose j a (σ z)) (transpose_twice j b (τ (transpose j a i)))
    ∙ ap (transpose j a) (B.to_from (transpose j a i) (omega arith) (transpose_lt n j a i pj pa q))
    ∙ transpose_twice j a i

pub bijection_turned : (n j a b : ℕ) (σ τ : ℕ → ℕ) → Bijection 0 n σ τ → j < n → a < n → b < n → Bijection 0 n (turned j a b σ) (turned j b a τ)
bijection_turned n j a b σ τ B pj pa pb = record {
  to_low = λ i p q. omega arith;
  to_high = λ i p q. turned_lt n j a b σ τ B pj pa pb i q;
  from_low = λ i p q. omega arith;
  from-high = λ i p q. turned_lt n j b a τ σ (inverse B) pj pb pa i q;
  to_from = λ i p q. turned_back n j a b σ τ B pj pa pb i q;
  from-to = λ i p q. turned_back n j b a τ σ (inverse B) pj pb pa i q;
}

-- where the pivots correspond, one more position is fixed
pub turned_fixes : (n j a b : ℕ) (σ : ℕ → ℕ) → Fixes n j σ → j ≤ a → j ≤ b → σ b ≡ a → Fixes n (j + 1) (turned j a b σ)
turned_fixes n j a b σ f ja jb e t h q = elim (ℕ_discrete t j) [
  | yes d ↦ ap (λ (z : ℕ). transpose j a (σ z)) (transpose_first j b t d) ∙ ap (transpose j a) e ∙ transpose_second j a a refl ∙ sym d
  | no d ↦ let l : t < j = omega arith in
      ap (λ (z : ℕ). transpose j a (σ z)) (transpose_low j j b t (omega arith) jb l) ∙ ap (transpose j a) (f t l q) ∙ transpose_low j j a t (omega arith) ja l
]
