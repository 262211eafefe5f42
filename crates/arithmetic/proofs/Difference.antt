-- A difference of two doubles, the first not less than the second, is not below zero.
use mathlib.Core.Path.{◌≡◌, refl, sym, ap, ◌∙◌, subst}
use mathlib.Core.Bool.{Bool, true, false, cond, not, true≢false}
use Prim.Native.Nat.{ℕ, ◌+◌, ◌-◌, ◌*◌, ◌<◌}
use native.Mathlib.Nat.{add_comm, mul_comm, mul-pos}
use native.Mathlib.Decide.{dec_lt}
use native.Mathlib.Omega.{arith}
use lib.Dec.{ltb}
use borrow.Author.Tests.{lt-ltb, le-ltb, ltb-false}
use lib.Ieee.{Float, nan, inf, fin, Format, binary64, up, down, round, sum, add, sub, neg, lt, below, of_bits}
use lib.Ieee.Fits.{down_pos}
use lib.Ieee.Scale.{round_same}
use Rattle.arithmetic.specs.Double.{plus_zero, ◌⊕◌, ◌⊖◌}
use Rattle.arithmetic.proofs.SignLaws.{not_negative, round-sign}
use Rattle.arithmetic.proofs.Cases.{Is, is, holds, fails}

-- ---- ±a / c less ±b / c, where ±a is not below ±b
minus-zero : (c : ℕ) → 0 < c → lt (round binary64 true 0 c) plus_zero ≡ false
minus-zero c h = subst (λ (z : Float). lt z plus_zero ≡ false) (round_same binary64 true 0 1 0 c (omega arith) h (omega arith)) zero_case
  where
    zero_case : lt (round binary64 true 0 1) plus_zero ≡ false
    zero_case = unfold round lt of_bits in refl

unsigned : (num den : ℕ) → lt (round binary64 false num den) plus_zero ≡ false
unsigned num den = not_negative (round binary64 false num den) (round-sign binary64 false num den)

sum-not_negative : (s : Bool) (a : ℕ) (t : Bool) (b c : ℕ) → 0 < c → below s a t b ≡ false → lt (sum binary64 s a (not t) b c) plus_zero ≡ false
unfolding sum
sum-not_negative false a false b c z h = rw h (unsigned (a - b) c)
sum-not_negative false a true b c z h = unsigned (a + b) c
sum-not_negative true a false b c z h =
    let e : a + b ≡ 0 = omega (arith, ltb-false 0 (a + b) h) in
    rw e (minus-zero c z)
sum-not_negative true a true b c z h = go (is (ltb a b))
  where
    go : Is (ltb a b) → lt (cond (ltb a b) (round binary64 false (b - a) c) (round binary64 (ltb b a) (a - b) c)) plus_zero ≡ false
    go (holds e) = rw e (unsigned (b - a) c)
    go (fails e) = rw (e, h) (unsigned (a - b) c)

pub sub-not_negative : (x y : Float) → lt x y ≡ false → lt (x ⊖ y) plus_zero ≡ false
unfolding sub add neg lt of_bits
sub-not_negative nan y h = refl
sub-not_negative (inf s) nan h = refl
sub-not_negative (inf true) (inf true) h = refl
sub-not_negative (inf true) (inf false) h = absurd (true≢false h)
sub-not_negative (inf false) (inf true) h = refl
sub-not_negative (inf false) (inf false) h = refl
sub-not_negative (inf true) (fin t n d) h = absurd (true≢false h)
sub-not_negative (inf false) (fin t n d) h = refl
sub-not_negative (fin s m e) nan h = refl
sub-not_negative (fin s m e) (inf true) h = refl
sub-not_negative (fin s m e) (inf false) h = absurd (true≢false h)
sub-not_negative (fin s m e) (fin t n d) h = sum-not_negative s (m * up e * down d) t (n * up d * down e) (down e * down d) (mul-pos (down_pos e) (down_pos d)) h

-- ---- sums in either order
opposite : (f : Format) (a b c : ℕ) → sum f true a false b c ≡ sum f false b true a c
unfolding sum
opposite f a b c = elim (dec_lt a b) [
  | yes p ↦ rw (lt-ltb a b p, le-ltb b a (omega arith))
  | no p ↦ elim (dec_lt b a) [
    | yes q ↦ rw (le-ltb a b (omega arith), lt-ltb b a q)
    | no q ↦
        let e : a - b ≡ b - a = omega arith in
        rw (le-ltb a b (omega arith), le-ltb b a (omega arith), e)
  ]
]

sum-commutes : (f : Format) (s : Bool) (a : ℕ) (t : Bool) (b c : ℕ) → sum f s a t b c ≡ sum f t b s a c
unfolding sum
sum-commutes f true a true b c = ap (λ (x : ℕ). round f true x c) (add_comm a b)
sum-commutes f false a false b c = ap (λ (x : ℕ). round f false x c) (add_comm a b)
sum-commutes f true a false b c = opposite f a b c
sum-commutes f false a true b c = sym (opposite f b a c)

add_commutes : (x y : Float) → x ⊕ y ≡ y ⊕ x
unfolding add
add_commutes nan nan = refl
add_commutes nan (inf t) = refl
add_commutes nan (fin t n d) = refl
add_commutes (inf s) nan = refl
add_commutes (inf true) (inf true) = refl
add_commutes (inf true) (inf false) = refl
add_commutes (inf false) (inf true) = refl
add_commutes (inf false) (inf false) = refl
add_commutes (inf s) (fin t n d) = refl
add_commutes (fin s m e) nan = refl
add_commutes (fin s m e) (inf t) = refl
add_commutes (fin s m e) (fin t n d) =
    sum-commutes binary64 s (m * up e * down d) t (n * up d * down e) (down e * down d)
    ∙ ap (sum binary64 t (n * up d * down e) s (m * up e * down d)) (mul_comm (down e) (down d))

-- -x + y, as SE99 writes the amount of a single last row
pub neg_add_not_negative : (x y : Float) → lt y x ≡ false → lt (neg x ⊕ y) plus_zero ≡ false
unfolding sub
neg_add_not_negative x y h = rw (add_commutes (neg x) y) (sub-not_negative y x h)
