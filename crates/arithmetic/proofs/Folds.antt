-- Folds over a range of positions that keep the smallest or the largest value, and what they come out as.
use mathlib.Core.Path.{◌≡◌, refl, sym, ap, ◌∙◌, subst}
use mathlib.Core.Logic.{◌⊎◌, inl, inr, ⊎_elim}
use mathlib.Core.Bool.{true, false, cond, false≢true}
use Prim.Native.Nat.{ℕ, suc, ◌≤◌, ◌<◌}
use native.Mathlib.Decide.{ℕ_discrete}
use native.Mathlib.Omega.{arith}
use lib.Dec.{T}
use lib.Ieee.{Float, nan, inf, fin, binary64, lt, is_nan, fits}
use lib.Ieee.Scale.{finite}
use Rattle.arithmetic.specs.Loop.{range}
use Rattle.arithmetic.proofs.LoopLaws.{range-ind}
use Rattle.arithmetic.proofs.OrderLaws.{lt-irreflexive, lt-transitive, lt-cotransitive, lt-left_number, none_above_infinity}
use Rattle.arithmetic.proofs.Cases.{Is, is, holds, fails, not_holds}

-- a double that is a number
pub record Double (x : Float) : Type 0 where
  pub number : is_nan x ≡ false
  pub double : T (fits binary64 x)

-- ---- the fold that keeps the smallest and skips NaN: it lies below x where some value does
abbrev pub keep_smaller : (ℕ → Float) → ℕ → Float → Float
keep_smaller f i acc = cond (lt (f i) acc) (f i) acc

abbrev pub smallest : ℕ → ℕ → (ℕ → Float) → Float
smallest a b f = range a b (keep_smaller f) (inf false)

pub record Least (f : ℕ → Float) (x : Float) (a t : ℕ) (acc : Float) : Type 0 where
  pub number : is_nan acc ≡ false
  pub some : lt acc x ≡ true → (i : ℕ) × (a ≤ i) × (i < t) × (lt (f i) x ≡ true)
  pub each : (i : ℕ) → a ≤ i → i < t → lt (f i) x ≡ true → lt acc x ≡ true

least_step : (f : ℕ → Float) (x : Float) (a b i : ℕ) → a ≤ i → i < b → (acc : Float) → Least f x a i acc → Least f x a (suc i) (keep_smaller f i acc)
least_step f x a b i p q acc L = go (is (lt (f i) acc))
  where
    go : Is (lt (f i) acc) → Least f x a (suc i) (keep_smaller f i acc)
    go (holds e) = rw e (record {
      number = lt-left_number (f i) acc e;
      some = λ w. (i, p, omega arith, w);
      each = λ k u v w. elim (ℕ_discrete k i) [
        | yes d ↦ subst (λ (j : ℕ). lt (f j) x ≡ true) d w
        | no d ↦ lt-transitive (f i) acc x e (L.each k u (omega arith) w)
      ];
    })
    go (fails e) = rw e (record {
      number = L.number;
      some = λ w. let r = L.some w in (r.0, r.1, omega (arith, r.2), r.3);
      each = λ k u v w. elim (ℕ_discrete k i) [
        | yes d ↦ lt-cotransitive (f i) acc x L.number (subst (λ (j : ℕ). lt (f j) x ≡ true) d w) e
        | no d ↦ L.each k u (omega arith) w
      ];
    })

pub least : (f : ℕ → Float) (x : Float) (a b : ℕ) → a ≤ b → Least f x a b (smallest a b f)
unfolding is_nan
least f x a b h = range-ind (Least f x a) a b (keep_smaller f) (inf false) h
    (record { number = refl; some = λ w. absurd (false≢true (sym (none_above_infinity x) ∙ w)); each = λ i p q. absurd (omega arith) }) (least_step f x a b)

-- ---- the fold that keeps the largest, from minus infinity
abbrev pub keep_larger : (ℕ → Float) → ℕ → Float → Float
keep_larger f i acc = cond (lt acc (f i)) (f i) acc

abbrev pub greatest : ℕ → ℕ → (ℕ → Float) → Float
greatest a b f = range a b (keep_larger f) (inf true)

pub record Most (f : ℕ → Float) (a t : ℕ) (acc : Float) : Type 0 where
  pub each : (i : ℕ) → a ≤ i → i < t → lt acc (f i) ≡ false
  pub from : (acc ≡ inf true) ⊎ ((i : ℕ) × (a ≤ i) × (i < t) × (acc ≡ f i))

most_step : (f : ℕ → Float) (a b i : ℕ) → a ≤ i → i < b → (acc : Float) → Most f a i acc → Most f a (suc i) (keep_larger f i acc)
most_step f a b i p q acc M = go (is (lt acc (f i)))
  where
    go : Is (lt acc (f i)) → Most f a (suc i) (keep_larger f i acc)
    go (holds e) = rw e (record {
      each = λ k u v. elim (ℕ_discrete k i) [
        | yes w ↦ rw w (lt-irreflexive (f i))
        | no w ↦ not_holds (lt (f i) (f k)) (λ h. false≢true (sym (M.each k u (omega arith)) ∙ lt-transitive acc (f i) (f k) e h))
      ];
      from = inr (i, p, omega arith, refl);
    })
    go (fails e) = rw e (record {
      each = λ k u v. elim (ℕ_discrete k i) [ yes w ↦ rw w e | no w ↦ M.each k u (omega arith) ];
      from = ⊎_elim (λ z. inl z) (λ r. inr (r.0, r.1, omega (arith, r.2), r.3)) M.from;
    })

pub most : (f : ℕ → Float) (a b : ℕ) → a ≤ b → Most f a b (greatest a b f)
most f a b h = range-ind (Most f a) a b (keep_larger f) (inf true) h (record { each = λ i p q. absurd (omega arith); from = inl refl }) (most_step f a b)

abbrev pub Finites : (ℕ → Float) → ℕ → ℕ → Type 0
Finites f a b = (i : ℕ) → a ≤ i → i < b → finite (f i) ≡ true

abbrev pub Doubles : (ℕ → Float) → ℕ → ℕ → Type 0
Doubles f a b = (i : ℕ) → a ≤ i → i < b → T (fits binary64 (f i))

above-minus_infinity : (x : Float) → finite x ≡ true → lt (inf true) x ≡ true
unfolding lt
above-minus_infinity nan h = absurd (false≢true h)
above-minus_infinity (inf s) h = absurd (false≢true h)
above-minus_infinity (fin s m e) h = refl

-- of finite numbers the fold is one of them
pub most-is : (f : ℕ → Float) (a b : ℕ) → a < b → Finites f a b → (i : ℕ) × (a ≤ i) × (i < b) × (greatest a b f ≡ f i)
most-is f a b h n = ⊎_elim
    (λ z. absurd (false≢true (sym ((most f a b (omega arith)).each a (omega arith) h) ∙ ap (λ (v : Float). lt v (f a)) z ∙ above-minus_infinity (f a) (n a (omega arith) h))))
    (λ r. r) (most f a b (omega arith)).from
