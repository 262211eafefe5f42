-- The largest magnitude, folded from +0.0: it has the same bits for every order of the same values.
use mathlib.Core.Path.{◌≡◌, refl, sym, ap, ◌∙◌, subst}
use mathlib.Core.Logic.{◌⊎◌, inl, inr, ⊎_elim}
use mathlib.Core.List.{List}
use mathlib.Core.Bool.{false, false≢true}
use Prim.Native.Nat.{ℕ, suc, ◌≤◌, ◌<◌}
use native.Mathlib.Decide.{ℕ_discrete}
use native.Mathlib.Omega.{arith}
use borrow.Author.Tests.{eq-eqb, ne_eqb}
use lib.Ieee.{Float, binary64, lt, is_nan, fits, of_bits}
use Rattle.arithmetic.specs.Double.{abs, plus_zero}
use Rattle.arithmetic.specs.Loop.{range}
use Rattle.arithmetic.proofs.LoopLaws.{range-ind}
use Rattle.arithmetic.proofs.OrderLaws.{lt-irreflexive, lt-transitive, lt-total}
use Rattle.arithmetic.specs.Sign.{sign_of}
use Rattle.arithmetic.proofs.SameDoubles.{same-double}
use Rattle.arithmetic.proofs.SignLaws.{abs-sign, abs-number, abs-fits, not_negative, plus_zero-sign}
use Rattle.arithmetic.proofs.Folds.{Double}
use Rattle.matrix.specs.Matrix.{at}
use Rattle.arithmetic.proofs.Cases.{Is, is, holds, fails, not_holds}
use Rattle.matrix.proofs.Bijection.{Bijection, inverse, Along, injective}
use Rattle.methods.specs.Statements.{larger_magnitude, fold_diagonal, diagonal_max}
use Rattle.methods.specs.Gmw81.{fold_off_diagonal, fold_row, off_diagonal_max}

zero_double : Double plus_zero
unfolding is_nan fits of_bits
zero_double = record { number = refl; double = tt }

-- ---- acc is the largest magnitude of the values that Value holds of
record Greatest (Value : Float → Type 0) (acc : Float) : Type 0 where
  double : Double acc
  sign : sign_of acc ≡ false
  each : (x : Float) → Value x → lt acc (abs x) ≡ false
  from : (acc ≡ plus_zero) ⊎ ((x : Float) × Value x × (acc ≡ abs x))

greatest_none : (Value : Float → Type 0) → ((x : Float) → Value x → ⊥) → Greatest Value plus_zero
greatest_none Value h = record { double = zero_double; sign = plus_zero-sign; each = λ x v. absurd (h x v); from = inl refl }

-- one value more
greatest_more : (Value More : Float → Type 0) (y acc : Float) → Double y → ((x : Float) → Value x → More x) → More y → ((x : Float) → More x → Value x ⊎ (x ≡ y))
    → Greatest Value acc → Greatest More (larger_magnitude acc y)
unfolding larger_magnitude
greatest_more Value More y acc d up' own only G = go (is (lt acc (abs y)))
  where
    go : Is (lt acc (abs y)) → Greatest More (larger_magnitude acc y)
    go (holds e) = rw e (record {
      double = record { number = abs-number y d.number; double = abs-fits y d.double };
      sign = abs-sign y;
      each = λ x v. ⊎_elim
          (λ w. not_holds (lt (abs y) (abs x)) (λ h. false≢true (sym (G.each x w) ∙ lt-transitive acc (abs y) (abs x) e h)))
          (λ w. rw w (lt-irreflexive (abs y))) (only x v);
      from = inr (y, own, refl);
    })
    go (fails e) = rw e (record {
      double = G.double;
      sign = G.sign;
      each = λ x v. ⊎_elim (λ w. G.each x w) (λ w. rw w e) (only x v);
      from = ⊎_elim (λ z. inl z) (λ r. inr (r.0, up' r.0 r.1, r.2)) G.from;
    })

not_above : (Value Other : Float → Type 0) (a b : Float) → ((x : Float) → Other x → Value x) → Greatest Value a → Greatest Other b → lt a b ≡ false
not_above Value Other a b h G H = ⊎_elim
    (λ z. rw z (not_negative a G.sign))
    (λ r. rw r.2 (G.each r.0 (h r.0 r.1))) H.from

greatest_same : (Value Other : Float → Type 0) (a b : Float) → ((x : Float) → Value x → Other x) → ((x : Float) → Other x → Value x) → Greatest Value a → Greatest Other b → a ≡ b
greatest_same Value Other a b h k G H = same-double binary64 a b G.double.double H.double.double (G.sign ∙ sym H.sign)
    (lt-total a b G.double.number H.double.number (not_above Value Other a b k G H) (not_above Other Value b a h H G))

-- ---- over positions a to b - 1
abbrev Among : ℕ → (ℕ → Float) → ℕ → Float → Type 0
Among a f t x = (i : ℕ) × (a ≤ i) × (i < t) × (x ≡ f i)

abbrev pub largest_magnitude : ℕ → ℕ → (ℕ → Float) → Float
largest_magnitude a b f = range a b (λ i acc. larger_magnitude acc (f i)) plus_zero

largest-is : (a b : ℕ) (f : ℕ → Float) → a ≤ b → ((i : ℕ) → a ≤ i → i < b → Double (f i)) → Greatest (Among a f b) (largest_magnitude a b f)
largest-is a b f h d = range-ind (λ t acc. Greatest (Among a f t) acc) a b (λ i acc. larger_magnitude acc (f i)) plus_zero h
    (greatest_none (Among a f a) (λ x v. omega (arith, v.1, v.2)))
    (λ i p q acc G. greatest_more (Among a f i) (Among a f (suc i)) (f i) acc (d i p q)
    (λ x v. (v.0, v.1, omega (arith, v.2), v.3))
    (i, p, omega arith, refl)
    (λ x v. elim (ℕ_discrete v.0 i) [ yes e ↦ inr (v.3 ∙ ap f e) | no n ↦ inl (v.0, v.1, omega (arith, v.2), v.3) ])
    G)

pub largest_magnitude_along : (a b : ℕ) (σ τ : ℕ → ℕ) (f g : ℕ → Float) → a ≤ b → Bijection a b σ τ → Along a b σ f g → ((i : ℕ) → a ≤ i → i < b → Double (f i))
    → largest_magnitude a b f ≡ largest_magnitude a b g
largest_magnitude_along a b σ τ f g h B A d =
    greatest_same (Among a f b) (Among a g b) (largest_magnitude a b f) (largest_magnitude a b g)
    (λ x v. (
      τ v.0,
      B.from_low v.0 v.1 v.2,
      B.from-high v.0 v.1 v.2,
      v.3 ∙ sym (A (τ v.0) (B.from_low v.0 v.1 v.2) (B.from-high v.0 v.1 v.2) ∙ ap f (B.to_from v.0 v.1 v.2)),
    ))
    (λ x v. (σ v.0, B.to_low v.0 v.1 v.2, B.to_high v.0 v.1 v.2, v.3 ∙ A v.0 v.1 v.2))
    (largest-is a b f h d)
    (largest-is a b g h (λ i p q. subst Double (sym (A i p q)) (d (σ i) (B.to_low i p q) (B.to_high i p q))))

-- gamma, and GMW81's diag_max
pub diagonal_max-along : (n : ℕ) (σ τ : ℕ → ℕ) (A B : List Float) → Bijection 0 n σ τ → ((x y : ℕ) → x < n → y < n → at n B x y ≡ at n A (σ x) (σ y))
    → ((x y : ℕ) → x < n → y < n → Double (at n A x y)) → diagonal_max n A ≡ diagonal_max n B
unfolding diagonal_max fold_diagonal
diagonal_max-along n σ τ A B P ent d = largest_magnitude_along 0 n σ τ (λ i. at n A i i) (λ i. at n B i i) (omega arith) P (λ i p q. ent i i q q) (λ i p q. d i i q q)

-- ---- over the entries off the diagonal, row by row
abbrev Before : ℕ → ℕ → ℕ → ℕ → Type 0
Before i k r c = (r < i) ⊎ ((r ≡ i) × (c < k))

abbrev Off : ℕ → List Float → ℕ → ℕ → Float → Type 0
Off n m i k x = (r : ℕ) × (c : ℕ) × (r < n) × (c < n) × (r ≡ c → ⊥) × Before i k r c × (x ≡ at n m r c)

module _ (n : ℕ) (m : List Float) (d : (x y : ℕ) → x < n → y < n → Double (at n m x y)) where
  off_step : (i : ℕ) → i < n → (k : ℕ) → 0 ≤ k → k < n → (acc : Float) → Greatest (Off n m i k) acc → Greatest (Off n m i (suc k)) (fold_off_diagonal n m i k acc)
  unfolding fold_off_diagonal
  off_step i pi k z pk acc G = elim (ℕ_discrete i k) [
    | yes e ↦ rw (eq-eqb i k e) (record {
      double = G.double;
      sign = G.sign;
      each = λ x v. G.each x (back e x v);
      from = ⊎_elim (λ z. inl z) (λ r. inr (r.0, wider r.0 r.1, r.2)) G.from;
    })
    | no e ↦ rw (ne_eqb i k e) (greatest_more (Off n m i k) (Off n m i (suc k)) (at n m i k) acc (d i k pi pk) wider
        (i, k, pi, pk, e, inr (refl, omega arith), refl)
        (λ x v. other x v) G)
  ]
    where
      wider : (x : Float) → Off n m i k x → Off n m i (suc k) x
      wider x v = (v.0, v.1, v.2, v.3, v.4, ⊎_elim (λ l. inl l) (λ l. inr (l.0, omega (arith, l.1))) v.5, v.6)

      narrow : (x : Float) (v : Off n m i (suc k) x) → (v.0 ≡ i → v.1 ≡ k → ⊥) → Off n m i k x
      narrow x v h = (v.0, v.1, v.2, v.3, v.4, ⊎_elim (λ l. inl l) (λ l. inr (l.0, elim (ℕ_discrete v.1 k) [ yes e ↦ absurd (h l.0 e) | no e ↦ omega (arith, l.1) ])) v.5, v.6)

      back : i ≡ k → (x : Float) → Off n m i (suc k) x → Off n m i k x
      back e x v = narrow x v (λ a b. v.4 (a ∙ e ∙ sym b))

      other : (x : Float) → Off n m i (suc k) x → Off n m i k x ⊎ (x ≡ at n m i k)
      other x v = elim (ℕ_discrete v.0 i) [
        | yes a ↦ elim (ℕ_discrete v.1 k) [
          | yes b ↦ inr (v.6 ∙ ap (λ (r : ℕ). at n m r v.1) a ∙ ap (at n m i) b)
          | no b ↦ inl (narrow x v (λ p q. b q))
        ]
        | no a ↦ inl (narrow x v (λ p q. a p))
      ]

  row_step : (i : ℕ) → 0 ≤ i → i < n → (acc : Float) → Greatest (Off n m i 0) acc → Greatest (Off n m (suc i) 0) (fold_row n m i acc)
  unfolding fold_row
  row_step i z pi acc G =
      let R = range-ind (λ k a. Greatest (Off n m i k) a) 0 n (fold_off_diagonal n m i) acc (omega arith) G (off_step i pi) in
      record {
        double = R.double;
        sign = R.sign;
        each = λ x v. R.each x (v.0, v.1, v.2, v.3, v.4, ⊎_elim (λ l. elim (ℕ_discrete v.0 i) [ yes e ↦ inr (e, v.3) | no e ↦ inl (omega arith) ]) (λ l. absurd (omega (arith, l.1))) v.5, v.6);
        from = ⊎_elim (λ q. inl q) (λ r. inr (r.0, (r.1.0, r.1.1, r.1.2, r.1.3, r.1.4, inl (⊎_elim (λ l. omega arith) (λ l. omega (arith, l.0)) r.1.5), r.1.6), r.2)) R.from;
      }

  off_is : Greatest (Off n m n 0) (off_diagonal_max n m)
  unfolding off_diagonal_max
  off_is = range-ind (λ i a. Greatest (Off n m i 0) a) 0 n (fold_row n m) plus_zero (omega arith)
      (greatest_none (Off n m 0 0) (λ x v. ⊎_elim (λ l. omega arith) (λ l. omega (arith, l.1)) v.5)) row_step

pub off_diagonal_max-along : (n : ℕ) (σ τ : ℕ → ℕ) (A B : List Float) → Bijection 0 n σ τ → ((x y : ℕ) → x < n → y < n → at n B x y ≡ at n A (σ x) (σ y))
    → ((x y : ℕ) → x < n → y < n → Double (at n A x y)) → off_diagonal_max n A ≡ off_diagonal_max n B
off_diagonal_max-along n σ τ A B P ent d =
    greatest_same (Off n A n 0) (Off n B n 0) (off_diagonal_max n A) (off_diagonal_max n B)
    (λ x v.
    let r = v.0 in
    let c = v.1 in
    let pr = P.from-high r (omega arith) v.2 in
    let pc = P.from-high c (omega arith) v.3 in (
      τ r,
      τ c,
      pr,
      pc,
      (λ e. v.4 (injective (inverse P) r c (omega arith) v.2 (omega arith) v.3 e)),
      inl pr,
      v.6 ∙ sym (ent (τ r) (τ c) pr pc ∙ ap (λ (z : ℕ). at n A z (σ (τ c))) (P.to_from r (omega arith) v.2) ∙ ap (at n A r) (P.to_from c (omega arith) v.3)),
    ))
    (λ x v.
    let r = v.0 in
    let c = v.1 in
    let pr = P.to_high r (omega arith) v.2 in
    let pc = P.to_high c (omega arith) v.3 in
    (σ r, σ c, pr, pc, (λ e. v.4 (injective P r c (omega arith) v.2 (omega arith) v.3 e)), inl pr, v.6 ∙ ent r c v.2 v.3))
    (off_is n A d)
    (off_is n B (λ x y px py. subst Double (sym (ent x y px py)) (d (σ x) (σ y) (P.to_high x (omega arith) px) (P.to_high y (omega arith) py))))
