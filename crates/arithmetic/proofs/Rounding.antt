-- Rounding: the nearest whole number between two halves, `round` at a number of known length, that the whole part at any scale and the
-- flag are all that rounding needs (`rounds_alike`), and that a whole root at any scale rounds as the one at scale 0 does.
use mathlib.Core.Path.{◌≡◌, refl, sym, ap, ◌∙◌, subst}
use mathlib.Core.Bool.{Bool, true, false, not, cond}
use mathlib.Core.Logic.{inl, inr}
use Prim.Native.Nat.{ℕ, zero, suc, ◌+◌, ◌-◌, ◌*◌, ◌/◌, ◌%◌, ◌^◌, ◌≤◌, ◌<◌, compare, Ordering}
use native.Mathlib.Omega.{arith}
use native.Mathlib.Nat.{le_trans, lt_of_le_of_lt, lt_of_lt_of_le, le_of_lt, le_of_eq, le_antisymm, mul-le-mul_right, mul-lt-mul_of_pos_right, add-mul, mul_assoc, mul_comm, mul_left_comm, mul_right_comm, mul-pos, lt_of_not-le, not-le_of_lt, eq-or-lt_of_le, pow-suc, div-eq_of_lt-le, div-add-mod', le-div_iff_mul-le, div-lt_iff_lt-mul}
use lib.Dec.{T, is_le, compare_is_eq, leb, ltb, eqb, lit<, leb→le, le→leb, eqb→eq, eqb_refl, ltb→lt, lt→ltb, nltb→le}
use lib.Arith.{le→nltb}
use lib.Pow.{pow_pos, pow_mono, pow-add}
use lib.Ieee.{binary64, round, units, size}
use lib.Ieee.Digits.{size-lt, size-le}
use lib.Ieee.Fits.{round_is, core}
use lib.Ieee.Bits.{is_true, is_false}
use lib.Ieee.Nearest.{closest, closest_same, div_same}
use Rattle.arithmetic.specs.Sqrt.{isqrt, nearest_to}
use Rattle.arithmetic.specs.InfinitelyPrecise.{RoundsAlikeTheorem}
use Rattle.arithmetic.proofs.WholeRoot.{isqrt-whole, lt-square, less_root, square-lt}

-- ---- the whole number closest to X / (2 * D)

compare_lt : (a b : ℕ) → a < b → compare a b ≡ Ordering.lt
compare_lt a b h = go (compare a b) (le→leb a b (le_of_lt h)) (λ (t : T (eqb a b)). let e : a ≡ b = eqb→eq a b t in omega arith)
  where
    go : (o : Ordering) → T (is_le o) → (T (compare_is_eq o) → ⊥) → o ≡ Ordering.lt
    go Ordering.lt h k = refl
    go Ordering.eq h k = absurd (k tt)
    go Ordering.gt h k = absurd h

compare_gt : (a b : ℕ) → b < a → compare a b ≡ Ordering.gt
compare_gt a b h = go (compare a b) (λ (t : T (leb a b)). not-le_of_lt h (leb→le a b t))
  where
    go : (o : Ordering) → (T (is_le o) → ⊥) → o ≡ Ordering.gt
    go Ordering.lt h = absurd (h tt)
    go Ordering.eq h = absurd (h tt)
    go Ordering.gt h = refl

half_steps : (h X D : ℕ) → 2 * (h * D) ≤ X → X < 2 * (h * D) + 2 * D → X / (2 * D) ≡ h
half_steps h X D lo hi = div-eq_of_lt-le (2 * D) (omega (arith, mul_left_comm h 2 D)) (omega (arith, mul_left_comm h 2 D, add-mul h 1 (2 * D)))

pub closest_even : (h X D : ℕ) → 2 * (h * D) ≤ X → X < 2 * (h * D) + D → closest X (2 * D) ≡ h
closest_even h X D lo hi =
    let q : X / (2 * D) ≡ h = half_steps h X D lo (omega arith) in
    let m : h * (2 * D) + X % (2 * D) ≡ X = rw q at (div-add-mod' X (2 * D)) in
    rw (q, compare_lt (X % (2 * D) * 2) (2 * D) (omega (arith, mul_left_comm h 2 D)))

pub closest_odd : (h X D : ℕ) → 2 * (h * D) + D < X → X < 2 * (h * D) + 2 * D → closest X (2 * D) ≡ suc h
closest_odd h X D lo hi =
    let q : X / (2 * D) ≡ h = half_steps h X D (omega arith) hi in
    let m : h * (2 * D) + X % (2 * D) ≡ X = rw q at (div-add-mod' X (2 * D)) in
    rw (q, compare_gt (X % (2 * D) * 2) (2 * D) (omega (arith, mul_left_comm h 2 D)))

compare_eq : (a b : ℕ) → a ≡ b → compare a b ≡ Ordering.eq
compare_eq a b e = go (compare a b) (subst (λ (x : ℕ). T (eqb a x)) e (eqb_refl a))
  where
    go : (o : Ordering) → T (compare_is_eq o) → o ≡ Ordering.eq
    go Ordering.lt h = absurd h
    go Ordering.eq h = refl
    go Ordering.gt h = absurd h

pub closest_tie : (h X D : ℕ) → 0 < D → X ≡ 2 * (h * D) + D → closest X (2 * D) ≡ h + h % 2
closest_tie h X D d e =
    let q : X / (2 * D) ≡ h = half_steps h X D (omega arith) (omega arith) in
    let m : h * (2 * D) + X % (2 * D) ≡ X = rw q at (div-add-mod' X (2 * D)) in
    rw (q, compare_eq (X % (2 * D) * 2) (2 * D) (omega (arith, mul_left_comm h 2 D)))

-- X / (2 * D), strictly between r / 2 and (r + 1) / 2
closest_between : (r X D : ℕ) → r * D < X → X < r * D + D → closest X (2 * D) ≡ (r + 1) / 2
closest_between r X D lo hi = go (r % 2) refl
  where
    h : ℕ
    h = r / 2

    go : (p : ℕ) → r % 2 ≡ p → closest X (2 * D) ≡ (r + 1) / 2
    go zero e =
        let z : r * D ≡ 2 * (h * D) = ap (λ (n : ℕ). n * D) (omega arith) ∙ mul_assoc 2 h D in
        closest_even h X D (omega arith) (omega arith) ∙ omega arith
    go (suc zero) e =
        let z : r * D ≡ 2 * h * D + 1 * D = ap (λ (n : ℕ). n * D) (omega arith) ∙ add-mul (2 * h) 1 D in
        let y : 2 * h * D ≡ 2 * (h * D) = mul_assoc 2 h D in
        closest_odd h X D (omega arith) (omega arith) ∙ omega arith
    go (suc (suc p)) e = omega arith

-- ---- `round` at a number of known length
pub size_at : (n j : ℕ) → 2 ^ j ≤ n → n < 2 ^ suc j → size n ≡ suc j
size_at n j lo hi = le_antisymm (size-le n (suc j) hi) (lt_of_not-le (λ (g : size n ≤ j). not-le_of_lt (lt_of_lt_of_le (size-lt n) (pow_mono g)) lo))

-- num / den units, of 54 + s binary digits before the point
round-at : (num den s : ℕ) → 0 < den → 2 ^ (53 + s) * den ≤ num → num < 2 ^ suc (53 + s) * den → round binary64 false num (den * 2 ^ 1074) ≡ units binary64 false (closest num (2 * (2 ^ s * den))) (suc s)
round-at num den s d lo hi =
    let whole : num * 2 ^ 1074 / (den * 2 ^ 1074) ≡ num / den = div_same (num * 2 ^ 1074) (den * 2 ^ 1074) num den (mul-pos d (lit< tt)) d (mul_right_comm num (2 ^ 1074) den ∙ mul_assoc num den (2 ^ 1074)) in
    let l : size (num * 2 ^ 1074 / (den * 2 ^ 1074)) ≡ suc (53 + s) = ap size whole ∙ size_at (num / den) (53 + s) ((le-div_iff_mul-le d).1 lo) ((div-lt_iff_lt-mul d).1 hi) in
    let k : size (num * 2 ^ 1074 / (den * 2 ^ 1074)) - 53 ≡ suc s = omega arith in
    round_is binary64 false num (den * 2 ^ 1074)
    ∙ ap (λ (n : ℕ). core binary64 false (num * 2 ^ 1074) (den * 2 ^ 1074) n) k
    ∙ ap (λ (n : ℕ). units binary64 false n (suc s)) (closest_same (num * 2 ^ 1074) (den * 2 ^ 1074 * 2 ^ suc s) num (2 * (2 ^ s * den)) (mul-pos (mul-pos d (lit< tt)) (pow_pos (suc s))) (mul-pos (lit< tt) (mul-pos (pow_pos s) d)) (rw (pow-suc 2 s) (same-unit num den (2 ^ 1074) (2 ^ s))))
  where
    same-unit : (n d a t : ℕ) → n * a * (2 * (t * d)) ≡ n * (d * a * (t * 2))
    same-unit n d a t = simp (mul_assoc, mul_comm, mul_left_comm)

module _ (whole s num den : ℕ) (lo : 2 ^ 53 ≤ whole) (hi : whole < 2 ^ 54) (under : whole * 2 ^ s * den ≤ num) (over : num < (whole + 1) * 2 ^ s * den) where
  some : 0 < den
  some = lt_of_not-le (λ (g : den ≤ 0). let z : den ≡ 0 = omega arith in not-le_of_lt over (rw z (omega arith)))

  pub rounds : round binary64 false num (den * 2 ^ 1074) ≡ units binary64 false (closest num (2 * (2 ^ s * den))) (suc s)
  rounds =
      let e : 2 ^ suc (53 + s) ≡ 2 ^ 54 * 2 ^ s = ap (λ (n : ℕ). 2 ^ n) (omega arith) ∙ pow-add 2 54 s in
      let l : 2 ^ (53 + s) ≤ whole * 2 ^ s = le_trans (le_of_eq (pow-add 2 53 s)) (mul-le-mul_right (2 ^ s) lo) in
      let h : (whole + 1) * 2 ^ s ≤ 2 ^ suc (53 + s) = le_trans (mul-le-mul_right (2 ^ s) (omega arith)) (le_of_eq (sym e)) in
      round-at num den s some (le_trans (mul-le-mul_right den l) under) (lt_of_lt_of_le over (mul-le-mul_right den h))

-- ---- any number with this whole part at this scale, and this flag
pub bit : (c : Bool) → cond c 1 0 ≤ 1
bit true = omega arith
bit false = omega arith

-- the number that stands for them all
pub nearest-is : (r : ℕ) (c : Bool) (s : ℕ) → 2 ^ 53 ≤ r → r < 2 ^ 54 → nearest_to r c s ≡ units binary64 false (closest (2 * r + cond c 1 0) 4) (suc s)
unfolding nearest_to
nearest-is r c s lo hi =
    rounds r s (X * D) 2 lo hi (le_trans (le_of_eq (twice r)) (mul-le-mul_right D (omega arith))) (lt_of_lt_of_le (mul-lt-mul_of_pos_right {m = X} {n = 2 * (r + 1)} (omega (arith, bit c)) (pow_pos s)) (le_of_eq (sym (twice (r + 1)))))
    ∙ ap (λ (n : ℕ). units binary64 false n (suc s)) (closest_same (X * D) (2 * (D * 2)) X 4 (mul-pos (lit< tt) (mul-pos (pow_pos s) (lit< tt))) (lit< tt) (four X D))
  where
    X : ℕ
    X = 2 * r + cond c 1 0

    D : ℕ
    D = 2 ^ s

    twice : (n : ℕ) → n * D * 2 ≡ 2 * n * D
    twice n = mul_comm (n * D) 2 ∙ sym (mul_assoc 2 n D)

    four : (X D : ℕ) → X * D * 4 ≡ X * (2 * (D * 2))
    four X D = simp (mul_assoc, mul_comm, mul_left_comm) (omega arith)

pub rounds_alike : RoundsAlikeTheorem
rounds_alike whole cut scale num den lo hi under over flag =
    rounds whole scale num den lo hi under over
    ∙ ap (λ (n : ℕ). units binary64 false n (suc scale)) (go cut flag)
    ∙ sym (nearest-is whole cut scale lo hi)
  where
    step : ℕ
    step = 2 ^ scale * den

    here : whole * 2 ^ scale * den ≡ whole * step
    here = mul_assoc whole (2 ^ scale) den

    next : (whole + 1) * 2 ^ scale * den ≡ whole * step + 1 * step
    next = mul_assoc (whole + 1) (2 ^ scale) den ∙ add-mul whole 1 step

    cross : (r d : ℕ) → r * d * 4 ≡ (2 * r + 0) * (2 * d)
    cross r d = simp (add-mul, mul_assoc, mul_comm, mul_left_comm) (omega arith)

    go : (c : Bool) → c ≡ ltb (whole * 2 ^ scale * den) num → closest num (2 * step) ≡ closest (2 * whole + cond c 1 0) 4
    go true e =
        let h : whole * 2 ^ scale * den < num = ltb→lt _ _ (subst T e tt) in
        closest_between whole num step (omega (arith, here)) (omega (arith, next)) ∙ sym (closest_between whole (2 * whole + 1) 2 (omega arith) (omega arith))
    go false e =
        let h : num ≤ whole * 2 ^ scale * den = nltb→le _ _ (subst (λ (c : Bool). T (not c)) e tt) in
        let z : num ≡ whole * step = omega (arith, here) in
        closest_same num (2 * step) (2 * whole + 0) 4 (mul-pos (lit< tt) (mul-pos (pow_pos scale) (some whole scale num den lo hi under over))) (lit< tt) (rw z (cross whole step))

-- ---- the root of N, whole at a scale and whole at scale 0
module _ (N r : ℕ) (c : Bool) (scale : ℕ) (under : r * 2 ^ scale * (r * 2 ^ scale) ≤ N) (over : N < (r + 1) * 2 ^ scale * ((r + 1) * 2 ^ scale)) (flag : c ≡ ltb (r * 2 ^ scale * (r * 2 ^ scale)) N) (lo : 2 ^ 53 ≤ r) (hi : r < 2 ^ 54) where
  abbrev R : ℕ
  R = isqrt N

  from : r * 2 ^ scale ≤ R
  from = lt-square (lt_of_le_of_lt under (isqrt-whole N).over)

  to : R < (r + 1) * 2 ^ scale
  to = less_root (lt_of_le_of_lt (isqrt-whole N).under over)

  same_flag : (C : Bool) → C ≡ ltb (R * R) N → ltb (r * 2 ^ scale * (r * 2 ^ scale)) N ≡ ltb (r * 2 ^ scale * 2) ((2 * R + cond C 1 0) * 2 ^ 0)
  same_flag C e = elim (eq-or-lt_of_le from) [
    | inl z ↦ rw (z, ← e) (alike C)
    | inr l ↦ is_true _ (lt→ltb _ _ (lt_of_lt_of_le (square-lt l) (isqrt-whole N).under)) ∙ sym (is_true _ (lt→ltb (r * 2 ^ scale * 2) ((2 * R + cond C 1 0) * 2 ^ 0) (omega (arith, bit C))))
  ]
    where
      alike : (C : Bool) → C ≡ ltb (R * 2) ((2 * R + cond C 1 0) * 2 ^ 0)
      alike true = sym (is_true _ (lt→ltb (R * 2) ((2 * R + 1) * 2 ^ 0) (omega arith)))
      alike false = sym (is_false _ (le→nltb (R * 2) ((2 * R + 0) * 2 ^ 0) (omega arith)))

  pub same-root : nearest_to r c scale ≡ nearest_to R (ltb (R * R) N) 0
  unfolding nearest_to
  same-root =
      let C : Bool = ltb (R * R) N in
      sym (rounds_alike r c scale ((2 * R + cond C 1 0) * 2 ^ 0) 2 lo hi (omega (arith, from, bit C)) (omega (arith, to, bit C)) (flag ∙ same_flag C refl))
