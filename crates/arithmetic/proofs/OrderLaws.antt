-- Order laws of doubles: `lt` is irreflexive and transitive, off NaN it is cotransitive and total up to `eq`, and nothing lies above infinity.
use mathlib.Core.Path.{◌≡◌, refl, sym, ◌∙◌}
use mathlib.Core.Bool.{Bool, true, false, not, ◌&&◌, ◌||◌, beq, true≢false, false≢true}
use Prim.Native.Nat.{ℕ, ◌+◌, ◌*◌, ◌≤◌, ◌<◌}
use native.Mathlib.Nat.{mul_right_comm, mul-pos, mul-lt-mul_of_pos_right, mul-le-mul_right}
use native.Mathlib.Decide.{dec_lt}
use native.Mathlib.Omega.{arith}
use lib.Dec.{T, ltb, eqb}
use borrow.Author.Tests.{ltb-true, ltb-false, lt-ltb, le-ltb, eqb-true, eq-eqb}
use lib.Ieee.{Float, nan, inf, fin, up, down, lt, eq, below, level, is_nan}
use lib.Ieee.Fits.{down_pos}
use lib.Ieee.Scale.{finite}

-- ---- signed numbers: `below s a t b` is ±a < ±b, and scaling both sides changes nothing
ltb_scale : (a b r : ℕ) → 0 < r → ltb (a * r) (b * r) ≡ ltb a b
ltb_scale a b r h = elim (dec_lt a b) [
  | yes p ↦ lt-ltb (a * r) (b * r) (mul-lt-mul_of_pos_right p h) ∙ sym (lt-ltb a b p)
  | no q ↦ let w : b ≤ a = omega arith in le-ltb (a * r) (b * r) (mul-le-mul_right r w) ∙ sym (le-ltb a b w)
]

scale : (s t : Bool) (a b r : ℕ) → 0 < r → below s (a * r) t (b * r) ≡ below s a t b
scale false false a b r h = ltb_scale a b r h
scale false true a b r h = refl
scale true false a b r h = elim (dec_lt 0 (a + b)) [
  | yes p ↦ lt-ltb 0 (a * r + b * r) (omega (arith, mul-pos p h)) ∙ sym (lt-ltb 0 (a + b) p)
  | no q ↦
      let w : a + b ≤ 0 = omega arith in
      le-ltb 0 (a * r + b * r) (omega (arith, mul-le-mul_right r w)) ∙ sym (le-ltb 0 (a + b) w)
]
scale true true a b r h = ltb_scale b a r h

below-irreflexive : (s : Bool) (a : ℕ) → below s a s a ≡ false
below-irreflexive true a = le-ltb a a (omega arith)
below-irreflexive false a = le-ltb a a (omega arith)

below-transitive : (s t u : Bool) (a b c : ℕ) → below s a t b ≡ true → below t b u c ≡ true → below s a u c ≡ true
below-transitive false false false a b c p q = lt-ltb a c (omega (arith, ltb-true a b p, ltb-true b c q))
below-transitive false false true a b c p q = q
below-transitive false true u a b c p q = absurd (false≢true p)
below-transitive true false false a b c p q = lt-ltb 0 (a + c) (omega (arith, ltb-true 0 (a + b) p, ltb-true b c q))
below-transitive true false true a b c p q = absurd (false≢true q)
below-transitive true true false a b c p q = lt-ltb 0 (a + c) (omega (arith, ltb-true b a p, ltb-true 0 (b + c) q))
below-transitive true true true a b c p q = lt-ltb c a (omega (arith, ltb-true b a p, ltb-true c b q))

below-cotransitive : (s t u : Bool) (a b c : ℕ) → below s a u c ≡ true → below s a t b ≡ false → below t b u c ≡ true
below-cotransitive false false false a b c p q = lt-ltb b c (omega (arith, ltb-true a c p, ltb-false a b q))
below-cotransitive false false true a b c p q = p
below-cotransitive false true false a b c p q = lt-ltb 0 (b + c) (omega (arith, ltb-true a c p))
below-cotransitive false true true a b c p q = absurd (false≢true p)
below-cotransitive true false false a b c p q = lt-ltb b c (omega (arith, ltb-true 0 (a + c) p, ltb-false 0 (a + b) q))
below-cotransitive true false true a b c p q = absurd (omega (arith, ltb-true c a p, ltb-false 0 (a + b) q))
below-cotransitive true true false a b c p q = lt-ltb 0 (b + c) (omega (arith, ltb-true 0 (a + c) p, ltb-false b a q))
below-cotransitive true true true a b c p q = lt-ltb c b (omega (arith, ltb-true c a p, ltb-false b a q))

below_total : (s t : Bool) (a b : ℕ) → below s a t b ≡ false → below t b s a ≡ false → level s a t b ≡ true
below_total false false a b p q = let e : a ≡ b = omega (arith, ltb-false a b p, ltb-false b a q) in rw (eq-eqb a b e)
below_total true true a b p q = let e : a ≡ b = omega (arith, ltb-false a b q, ltb-false b a p) in rw (eq-eqb a b e)
below_total false true a b p q =
    let e : a ≡ b = omega (arith, ltb-false 0 (b + a) q) in
    let z : a ≡ 0 = omega (arith, ltb-false 0 (b + a) q) in
    rw (eq-eqb a b e, eq-eqb a 0 z)
below_total true false a b p q =
    let e : a ≡ b = omega (arith, ltb-false 0 (a + b) p) in
    let z : a ≡ 0 = omega (arith, ltb-false 0 (a + b) p) in
    rw (eq-eqb a b e, eq-eqb a 0 z)

pub and_1 : (a b : Bool) → a && b ≡ true → a ≡ true
and_1 true b e = refl
and_1 false b e = e

pub and_2 : (a b : Bool) → a && b ≡ true → b ≡ true
and_2 true b e = e
and_2 false b e = absurd (false≢true e)

pub or_1 : (a b : Bool) → a || b ≡ false → a ≡ false
or_1 true b e = e
or_1 false b e = refl

pub or_2 : (a b : Bool) → a || b ≡ false → b ≡ false
or_2 true b e = absurd (true≢false e)
or_2 false b e = e

below-level : (s t : Bool) (a b : ℕ) → level s a t b ≡ true → below s a t b ≡ false
below-level true true a b p = le-ltb b a (omega (arith, eqb-true a b (and_1 (eqb a b) true p)))
below-level false false a b p = le-ltb a b (omega (arith, eqb-true a b (and_1 (eqb a b) true p)))
below-level false true a b p = refl
below-level true false a b p = le-ltb 0 (a + b) (omega (arith, eqb-true a b (and_1 (eqb a b) (eqb a 0) p), eqb-true a 0 (and_2 (eqb a b) (eqb a 0) p)))

beq_symmetric : (s t : Bool) → beq s t ≡ beq t s
beq_symmetric true true = refl
beq_symmetric true false = refl
beq_symmetric false true = refl
beq_symmetric false false = refl

-- ---- doubles
pub lt-irreflexive : (x : Float) → lt x x ≡ false
unfolding lt
lt-irreflexive nan = refl
lt-irreflexive (inf true) = refl
lt-irreflexive (inf false) = refl
lt-irreflexive (fin s m e) = below-irreflexive s (m * up e * down e)

-- three fractions x/p, y/q, z/r, compared by cross products
fraction_transitive : (s t u : Bool) (x p y q z r : ℕ) → 0 < p → 0 < q → 0 < r → below s (x * q) t (y * p) ≡ true → below t (y * r) u (z * q) ≡ true → below s (x * r) u (z * p) ≡ true
fraction_transitive s t u x p y q z r P Q R a b =
    let pp : below s (x * q * r) t (y * p * r) ≡ true = scale s t (x * q) (y * p) r R ∙ a in
    let qq : below t (y * p * r) u (z * p * q) ≡ true = rw (mul_right_comm y p r, mul_right_comm z p q) (scale t u (y * r) (z * q) p P ∙ b) in
    sym (scale s u (x * r) (z * p) q Q) ∙ rw (mul_right_comm x r q) (below-transitive s t u (x * q * r) (y * p * r) (z * p * q) pp qq)

fraction_cotransitive : (s t u : Bool) (x p y q z r : ℕ) → 0 < p → 0 < q → 0 < r → below s (x * r) u (z * p) ≡ true → below s (x * q) t (y * p) ≡ false → below t (y * r) u (z * q) ≡ true
fraction_cotransitive s t u x p y q z r P Q R a b =
    let qq : below s (x * q * r) t (y * p * r) ≡ false = scale s t (x * q) (y * p) r R ∙ b in
    let pp : below s (x * q * r) u (z * p * q) ≡ true = rw (mul_right_comm x q r) (scale s u (x * r) (z * p) q Q ∙ a) in
    sym (scale t u (y * r) (z * q) p P) ∙ rw (mul_right_comm y r p, mul_right_comm z q p) (below-cotransitive s t u (x * q * r) (y * p * r) (z * p * q) pp qq)

pub lt-transitive : (x y z : Float) → lt x y ≡ true → lt y z ≡ true → lt x z ≡ true
unfolding lt
lt-transitive nan y z p q = absurd (false≢true p)
lt-transitive (inf s) nan z p q = absurd (false≢true p)
lt-transitive (inf s) (inf t) nan p q = absurd (false≢true q)
lt-transitive (inf false) (inf t) (inf u) p q = absurd (false≢true p)
lt-transitive (inf true) (inf false) (inf u) p q = absurd (false≢true q)
lt-transitive (inf true) (inf true) (inf u) p q = absurd (false≢true p)
lt-transitive (inf false) (inf t) (fin u o g) p q = absurd (false≢true p)
lt-transitive (inf true) (inf t) (fin u o g) p q = refl
lt-transitive (inf s) (fin t n d) nan p q = absurd (false≢true q)
lt-transitive (inf false) (fin t n d) (inf u) p q = absurd (false≢true p)
lt-transitive (inf true) (fin t n d) (inf u) p q = q
lt-transitive (inf s) (fin t n d) (fin u o g) p q = p
lt-transitive (fin s m e) nan z p q = absurd (false≢true p)
lt-transitive (fin s m e) (inf t) nan p q = absurd (false≢true q)
lt-transitive (fin s m e) (inf false) (inf u) p q = absurd (false≢true q)
lt-transitive (fin s m e) (inf true) (inf u) p q = absurd (false≢true p)
lt-transitive (fin s m e) (inf false) (fin u o g) p q = absurd (false≢true q)
lt-transitive (fin s m e) (inf true) (fin u o g) p q = absurd (false≢true p)
lt-transitive (fin s m e) (fin t n d) nan p q = absurd (false≢true q)
lt-transitive (fin s m e) (fin t n d) (inf u) p q = q
lt-transitive (fin s m e) (fin t n d) (fin u o g) p q = fraction_transitive s t u (m * up e) (down e) (n * up d) (down d) (o * up g) (down g) (down_pos e) (down_pos d) (down_pos g) p q

-- what lies above x lies above every y that x is not below
pub lt-cotransitive : (x y z : Float) → is_nan y ≡ false → lt x z ≡ true → lt x y ≡ false → lt y z ≡ true
unfolding lt is_nan
lt-cotransitive nan y z nn p q = absurd (false≢true p)
lt-cotransitive (inf s) y nan nn p q = absurd (false≢true p)
lt-cotransitive (inf s) nan (inf u) nn p q = absurd (true≢false nn)
lt-cotransitive (inf false) (inf t) (inf u) nn p q = absurd (false≢true p)
lt-cotransitive (inf true) (inf false) (inf u) nn p q = absurd (true≢false q)
lt-cotransitive (inf true) (inf true) (inf u) nn p q = p
lt-cotransitive (inf false) (fin t n d) (inf u) nn p q = absurd (false≢true p)
lt-cotransitive (inf true) (fin t n d) (inf u) nn p q = p
lt-cotransitive (inf s) nan (fin u o g) nn p q = absurd (true≢false nn)
lt-cotransitive (inf false) (inf t) (fin u o g) nn p q = absurd (false≢true p)
lt-cotransitive (inf true) (inf false) (fin u o g) nn p q = absurd (true≢false q)
lt-cotransitive (inf true) (inf true) (fin u o g) nn p q = refl
lt-cotransitive (inf s) (fin t n d) (fin u o g) nn p q = absurd (false≢true (sym q ∙ p))
lt-cotransitive (fin s m e) y nan nn p q = absurd (false≢true p)
lt-cotransitive (fin s m e) nan (inf u) nn p q = absurd (true≢false nn)
lt-cotransitive (fin s m e) (inf true) (inf u) nn p q = p
lt-cotransitive (fin s m e) (inf false) (inf u) nn p q = absurd (true≢false q)
lt-cotransitive (fin s m e) (fin t n d) (inf u) nn p q = p
lt-cotransitive (fin s m e) nan (fin u o g) nn p q = absurd (true≢false nn)
lt-cotransitive (fin s m e) (inf true) (fin u o g) nn p q = refl
lt-cotransitive (fin s m e) (inf false) (fin u o g) nn p q = absurd (true≢false q)
lt-cotransitive (fin s m e) (fin t n d) (fin u o g) nn p q = fraction_cotransitive s t u (m * up e) (down e) (n * up d) (down d) (o * up g) (down g) (down_pos e) (down_pos d) (down_pos g) p q

pub lt-total : (x y : Float) → is_nan x ≡ false → is_nan y ≡ false → lt x y ≡ false → lt y x ≡ false → eq x y ≡ true
unfolding lt eq is_nan
lt-total nan y nx ny p q = absurd (true≢false nx)
lt-total (inf s) nan nx ny p q = absurd (true≢false ny)
lt-total (inf true) (inf true) nx ny p q = refl
lt-total (inf true) (inf false) nx ny p q = absurd (true≢false p)
lt-total (inf false) (inf true) nx ny p q = absurd (true≢false q)
lt-total (inf false) (inf false) nx ny p q = refl
lt-total (inf true) (fin t n d) nx ny p q = absurd (true≢false p)
lt-total (inf false) (fin t n d) nx ny p q = absurd (true≢false q)
lt-total (fin s m e) nan nx ny p q = absurd (true≢false ny)
lt-total (fin s m e) (inf true) nx ny p q = absurd (true≢false q)
lt-total (fin s m e) (inf false) nx ny p q = absurd (true≢false p)
lt-total (fin s m e) (fin t n d) nx ny p q = below_total s t (m * up e * down d) (n * up d * down e) p q

pub eq_not_lt : (x y : Float) → eq x y ≡ true → lt x y ≡ false
unfolding lt eq
eq_not_lt nan y p = refl
eq_not_lt (inf s) nan p = refl
eq_not_lt (inf true) (inf true) p = refl
eq_not_lt (inf true) (inf false) p = absurd (false≢true p)
eq_not_lt (inf false) (inf t) p = refl
eq_not_lt (inf s) (fin t n d) p = absurd (false≢true p)
eq_not_lt (fin s m e) nan p = refl
eq_not_lt (fin s m e) (inf t) p = absurd (false≢true p)
eq_not_lt (fin s m e) (fin t n d) p = below-level s t (m * up e * down d) (n * up d * down e) p

level_sym : (s t : Bool) (a b : ℕ) → level s a t b ≡ true → level t b s a ≡ true
level_sym s t a b p =
    let e : a ≡ b = eqb-true a b (and_1 (eqb a b) (beq s t || eqb a 0) p) in
    rw (eq-eqb b a (sym e), beq_symmetric t s, ← e) (and_2 (eqb a b) (beq s t || eqb a 0) p)

pub eq_symmetric : (x y : Float) → eq x y ≡ true → eq y x ≡ true
unfolding eq
eq_symmetric nan y p = absurd (false≢true p)
eq_symmetric (inf s) nan p = absurd (false≢true p)
eq_symmetric (inf s) (inf t) p = beq_symmetric t s ∙ p
eq_symmetric (inf s) (fin t n d) p = absurd (false≢true p)
eq_symmetric (fin s m e) nan p = absurd (false≢true p)
eq_symmetric (fin s m e) (inf t) p = absurd (false≢true p)
eq_symmetric (fin s m e) (fin t n d) p = level_sym s t (m * up e * down d) (n * up d * down e) p

pub lt-left_number : (x y : Float) → lt x y ≡ true → is_nan x ≡ false
unfolding lt is_nan
lt-left_number nan y p = absurd (false≢true p)
lt-left_number (inf s) y p = refl
lt-left_number (fin s m e) y p = refl

pub finite_number : (x : Float) → finite x ≡ true → is_nan x ≡ false
unfolding is_nan
finite_number nan p = absurd (false≢true p)
finite_number (inf s) p = absurd (false≢true p)
finite_number (fin s m e) p = refl

pub finite_not_nan : (x : Float) → finite x ≡ true → T (not (is_nan x))
finite_not_nan x p = rw (finite_number x p) tt

pub none_above_infinity : (x : Float) → lt (inf false) x ≡ false
unfolding lt
none_above_infinity nan = refl
none_above_infinity (inf t) = refl
none_above_infinity (fin t n d) = refl
