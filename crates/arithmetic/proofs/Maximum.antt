-- Numbers that are not less than a bound: of two values' maximum, of rounded values, of products.
use mathlib.Core.Path.{◌≡◌, refl, sym, ap, ◌∙◌, subst}
use mathlib.Core.Bool.{Bool, true, false, cond, ◌||◌, true≢false, false≢true}
use Prim.Native.Nat.{ℕ, zero, suc, ◌+◌, ◌*◌, ◌^◌, ◌≤◌}
use native.Mathlib.Nat.{mul-pos}
use native.Mathlib.Omega.{arith}
use lib.Dec.{T, ltb}
use lib.IntN.{ℤ}
use borrow.Author.Tests.{le-ltb, ltb-false}
use lib.Ieee.{Float, nan, inf, fin, Format, binary64, low, emax, prec, up, down, odd, units, round, mul, lt, le, eq, is_nan, of_bits}
use lib.Ieee.Fits.{round_is, down_pos}
use lib.Ieee.Order.{round_mono}
use lib.Pow.{pow_pos}
use Rattle.arithmetic.specs.Double.{plus_zero, one, epsilon, ◌⊗◌, abs, max}
use Rattle.arithmetic.proofs.OrderLaws.{or_1, or_2, lt-irreflexive, lt-transitive, lt-cotransitive, eq_symmetric, eq_not_lt}
use Rattle.arithmetic.specs.AtLeast.{AtLeast}
use Rattle.arithmetic.proofs.Cases.{Is, is, holds, fails, not_holds}

pub at_least_self : (x : Float) → is_nan x ≡ false → AtLeast x x
at_least_self x h = record { number = h; not_less = lt-irreflexive x }

pub lt-right_number : (x y : Float) → lt x y ≡ true → is_nan y ≡ false
unfolding lt is_nan
lt-right_number nan y h = absurd (false≢true h)
lt-right_number (inf s) nan h = absurd (false≢true h)
lt-right_number (inf s) (inf t) h = refl
lt-right_number (inf s) (fin t n d) h = refl
lt-right_number (fin s m e) nan h = absurd (false≢true h)
lt-right_number (fin s m e) (inf t) h = refl
lt-right_number (fin s m e) (fin t n d) h = refl

pub none_below_nan : (x : Float) → lt x nan ≡ false
unfolding lt
none_below_nan nan = refl
none_below_nan (inf s) = refl
none_below_nan (fin s m e) = refl

-- ---- a maximum is at least what either value is; the other one may be NaN
pub max-right : (w u v : Float) → AtLeast w v → AtLeast w (max u v)
max-right w u v h = go (is (lt u v || is_nan u))
  where
    go : Is (lt u v || is_nan u) → AtLeast w (max u v)
    go (holds e) = rw e h
    go (fails e) = rw e (record {
      number = or_2 (lt u v) (is_nan u) e;
      not_less = not_holds (lt u w) (λ k. false≢true (sym h.not_less ∙ lt-cotransitive u v w h.number k (or_1 (lt u v) (is_nan u) e)));
    })

pub max-left : (w u v : Float) → AtLeast w u → AtLeast w (max u v)
max-left w u v h = go (is (lt u v))
  where
    go : Is (lt u v) → AtLeast w (max u v)
    go (holds e) = rw e (record {
      number = lt-right_number u v e;
      not_less = not_holds (lt v w) (λ k. false≢true (sym h.not_less ∙ lt-transitive u v w e k));
    })
    go (fails e) = rw (e, h.number) h

-- .. so one that begins as 0.0.max(..) is not negative
zero_bound : AtLeast plus_zero plus_zero
unfolding is_nan of_bits
zero_bound = at_least_self plus_zero refl

pub max-not_negative : (x y : Float) → lt (max (max plus_zero x) y) plus_zero ≡ false
max-not_negative x y = (max-left plus_zero (max plus_zero x) y (max-left plus_zero plus_zero x zero_bound)).not_less

-- ---- bounds of bounds
pub none_below_minus_infinity : (x : Float) → lt x (inf true) ≡ false
unfolding lt
none_below_minus_infinity nan = refl
none_below_minus_infinity (inf true) = refl
none_below_minus_infinity (inf false) = refl
none_below_minus_infinity (fin s m e) = refl

pub at_least_through : (u w x : Float) → AtLeast u w → AtLeast w x → lt x u ≡ false
at_least_through u w x p q = not_holds (lt x u) (λ h. false≢true (sym p.not_less ∙ lt-cotransitive x w u p.number h q.not_less))

pub negative_not_above : (m : ℕ) (e : ℤ) → lt plus_zero (fin true m e) ≡ false
unfolding lt of_bits
negative_not_above m e = refl

pub abs-at_least : (x : Float) → is_nan x ≡ false → AtLeast x (abs x)
unfolding abs lt is_nan
abs-at_least nan h = absurd (true≢false h)
abs-at_least (inf true) h = record { number = refl; not_less = refl }
abs-at_least (inf false) h = record { number = refl; not_less = refl }
abs-at_least (fin true m e) h = record { number = refl; not_less = refl }
abs-at_least (fin false m e) h = record { number = refl; not_less = le-ltb (m * up e * down e) (m * up e * down e) (omega arith) }

pub nan_is : (x : Float) → is_nan x ≡ true → x ≡ nan
unfolding is_nan
nan_is nan h = refl
nan_is (inf s) h = absurd (true≢false (sym h))
nan_is (fin s m e) h = absurd (true≢false (sym h))

-- ---- rounding
pub round_number : (f : Format) (s : Bool) (num den : ℕ) → is_nan (round f s num den) ≡ false
round_number f s num den = ap is_nan (round_is f s num den) ∙ units_number _ _
  where
    odd_number : (d q k l : ℕ) → is_nan (odd d s q k l) ≡ false
    odd_number d zero k l = unfold odd is_nan in refl
    odd_number d (suc q) k l = unfold odd is_nan in refl

    pick : (b : Bool) (q k : ℕ) → is_nan (cond b (odd (suc (prec f)) s q k (low f)) (inf s)) ≡ false
    pick true q k = odd_number (suc (prec f)) q k (low f)
    pick false q k = unfold is_nan in refl

    units_number : (q k : ℕ) → is_nan (units f s q k) ≡ false
    units_number q k = unfold units in pick (ltb (q * 2 ^ k) (2 ^ (low f + suc (emax f)))) q k

pub not_less-of_le : (x y : Float) → T (le x y) → lt y x ≡ false
unfolding le
not_less-of_le x y h = go (is (lt x y)) (is (eq x y)) h
  where
    go : Is (lt x y) → Is (eq x y) → T (lt x y || eq x y) → lt y x ≡ false
    go (holds e) q t = not_holds (lt y x) (λ k. false≢true (sym (lt-irreflexive x) ∙ lt-transitive x y x e k))
    go (fails e) (holds q) t = eq_not_lt y x (eq_symmetric x y q)
    go (fails e) (fails q) t = absurd (rw (e, q) at t)

-- ---- epsilon times a number that is at least 1.0
epsilon-rounded : round binary64 false 1 (2 ^ 52) ≡ epsilon
unfolding round of_bits
epsilon-rounded = refl

pub epsilon-times : (x : Float) → AtLeast one x → AtLeast epsilon (epsilon ⊗ x)
unfolding mul lt is_nan of_bits
epsilon-times nan h = absurd (true≢false h.number)
epsilon-times (inf true) h = absurd (true≢false h.not_less)
epsilon-times (inf false) h = record { number = refl; not_less = refl }
epsilon-times (fin true m e) h = absurd (omega (arith, down_pos e, ltb-false 0 (m * up e * 1 + 1 * down e) h.not_less))
epsilon-times (fin false m e) h =
    let num = 1 * (m * up e) in
    let den = 2 ^ 52 * down e in
    let large : down e ≤ m * up e = omega (arith, ltb-false (m * up e * 1) (1 * down e) h.not_less) in
    record {
      number = round_number binary64 false num den;
      not_less = subst (λ (z : Float). lt (round binary64 false num den) z ≡ false) epsilon-rounded
          (not_less-of_le (round binary64 false 1 (2 ^ 52)) (round binary64 false num den)
          (round_mono binary64 1 (2 ^ 52) num den (pow_pos 52) (mul-pos (pow_pos 52) (down_pos e)) (omega arith)));
    }
