-- When two doubles are the same: products in either order, and equal numbers of one sign.
use mathlib.Core.Path.{◌≡◌, refl, sym, ap, ◌∙◌}
use mathlib.Core.Bool.{Bool, true, false, ◌&&◌, ◌||◌, cond, beq, false≢true}
use Prim.Native.Nat.{ℕ, zero, suc, ◌+◌, ◌*◌, ◌%◌, ◌^◌, ◌<◌}
use native.Mathlib.Nat.{mul_comm, mul_assoc, mul_left_comm, mul-one, one-mul, mul-pos, pow-succ', pow-suc, eq_of_mul-eq-mul_right, zero-lt-suc, suc_inj}
use native.Mathlib.Omega.{arith}
use lib.IntN.{ℤ, pos, negsuc}
use lib.Dec.{T, ltb, leb, eqb, eqb→eq}
use lib.Pow.{pow_pos, pow-add}
use borrow.Author.Tests.{eqb-true}
use lib.Ieee.{Float, nan, inf, fin, Format, prec, emax, low, up, down, unlike, mul, eq, fits}
use lib.Ieee.Fits.{up_pos, down_pos, and_l}
use Rattle.arithmetic.proofs.OrderLaws.{and_1}
use Rattle.arithmetic.specs.Sign.{sign_of}

-- ---- products
unlike_comm : (s t : Bool) → unlike s t ≡ unlike t s
unlike_comm true true = refl
unlike_comm true false = refl
unlike_comm false true = refl
unlike_comm false false = refl

pub mul_commutes : (f : Format) (x y : Float) → mul f x y ≡ mul f y x
unfolding mul
mul_commutes f nan nan = refl
mul_commutes f nan (inf t) = refl
mul_commutes f nan (fin t n d) = refl
mul_commutes f (inf s) nan = refl
mul_commutes f (inf s) (inf t) = ap inf (unlike_comm s t)
mul_commutes f (inf s) (fin t n d) = ap (λ (b : Bool). cond (eqb n 0) nan (inf b)) (unlike_comm s t)
mul_commutes f (fin s m e) nan = refl
mul_commutes f (fin s m e) (inf t) = ap (λ (b : Bool). cond (eqb m 0) nan (inf b)) (unlike_comm s t)
mul_commutes f (fin s m e) (fin t n d) = rw (unlike_comm s t, mul_comm (m * up e) (n * up d), mul_comm (down e) (down d))

-- ---- equal numbers of one sign, each written in the one way, are the same
even_odd : (m t : ℕ) → m % 2 ≡ 1 → m ≡ 2 * t → ⊥
even_odd m t o h = omega arith

odd_pow : (m n a b : ℕ) → m % 2 ≡ 1 → n % 2 ≡ 1 → m * 2 ^ a ≡ n * 2 ^ b → (m ≡ n) × (a ≡ b)
odd_pow m n zero zero o p h = (sym (mul-one m) ∙ h ∙ mul-one n, refl)
odd_pow m n zero (suc b) o p h = absurd (even_odd m (n * 2 ^ b) o (sym (mul-one m) ∙ h ∙ ap (λ (x : ℕ). n * x) (pow-succ' 2 b) ∙ mul_left_comm n 2 (2 ^ b)))
odd_pow m n (suc a) zero o p h = absurd (even_odd n (m * 2 ^ a) p (sym (mul-one n) ∙ sym h ∙ ap (λ (x : ℕ). m * x) (pow-succ' 2 a) ∙ mul_left_comm m 2 (2 ^ a)))
odd_pow m n (suc a) (suc b) o p h =
    let r = odd_pow m n a b o p (eq_of_mul-eq-mul_right 2 (zero-lt-suc 1) (m * 2 ^ a) (n * 2 ^ b)
    (mul_assoc m (2 ^ a) 2 ∙ ap (λ (x : ℕ). m * x) (sym (pow-suc 2 a)) ∙ h ∙ ap (λ (x : ℕ). n * x) (pow-suc 2 b) ∙ sym (mul_assoc n (2 ^ b) 2))) in
    (r.0, ap suc r.1)

is_odd : (f : Format) (s : Bool) (m : ℕ) (e : ℤ) → T (fits f (fin s (suc m) e)) → suc m % 2 ≡ 1
unfolding fits
is_odd f s m e t =
    eqb→eq (suc m % 2) 1 (and_l (eqb (suc m % 2) 1) (ltb (suc m) (2 ^ prec f)) (and_l (eqb (suc m % 2) 1 && ltb (suc m) (2 ^ prec f)) (leb (down e) (2 ^ low f))
    (and_l (eqb (suc m % 2) 1 && ltb (suc m) (2 ^ prec f) && leb (down e) (2 ^ low f)) (ltb (suc m * up e) (2 ^ suc (emax f) * down e)) t)))

two_up : (p : ℕ) → 0 < p → 2 * p ≡ 1 → ⊥
two_up p h e = omega arith

flat : (e : ℤ) → up e * down e ≡ 1 → e ≡ pos 0
flat (pos zero) h = refl
flat (pos (suc k)) h = absurd (two_up (2 ^ k) (pow_pos k) (sym (pow-succ' 2 k) ∙ sym (mul-one (2 ^ suc k)) ∙ h))
flat (negsuc k) h = absurd (two_up (2 ^ k) (pow_pos k) (sym (pow-succ' 2 k) ∙ sym (one-mul (2 ^ suc k)) ∙ h))

pub zero_exp : (f : Format) (s : Bool) (e : ℤ) → T (fits f (fin s zero e)) → e ≡ pos 0
unfolding fits
zero_exp f s e t = flat e (eqb→eq (up e * down e) 1 t)

-- a fraction is written in one way
one_way : (m n : ℕ) (e d : ℤ) → m % 2 ≡ 1 → n % 2 ≡ 1 → m * up e * down d ≡ n * up d * down e → (m ≡ n) × (e ≡ d)
one_way m n (pos a) (pos b) o p h =
    let r = odd_pow m n a b o p (sym (mul-one (m * 2 ^ a)) ∙ h ∙ mul-one (n * 2 ^ b)) in (r.0, ap pos r.1)
one_way m n (pos a) (negsuc b) o p h =
    let r = odd_pow m n (a + suc b) 0 o p (ap (λ (x : ℕ). m * x) (pow-add 2 a (suc b)) ∙ sym (mul_assoc m (2 ^ a) (2 ^ suc b)) ∙ h ∙ mul-one (n * 1)) in
    absurd (omega (arith, r.1))
one_way m n (negsuc a) (pos b) o p h =
    let r = odd_pow n m (b + suc a) 0 p o (ap (λ (x : ℕ). n * x) (pow-add 2 b (suc a)) ∙ sym (mul_assoc n (2 ^ b) (2 ^ suc a)) ∙ sym h ∙ mul-one (m * 1)) in
    absurd (omega (arith, r.1))
one_way m n (negsuc a) (negsuc b) o p h =
    let r = odd_pow m n (suc b) (suc a) o p (ap (λ (x : ℕ). x * 2 ^ suc b) (sym (mul-one m)) ∙ h ∙ ap (λ (x : ℕ). x * 2 ^ suc a) (mul-one n)) in
    (r.0, ap negsuc (suc_inj (sym r.1)))

pub beq_self : (b : Bool) → beq b b ≡ true
beq_self true = refl
beq_self false = refl

pub product-pos : (n : ℕ) (d e : ℤ) → 0 < suc n * up d * down e
product-pos n d e = mul-pos (mul-pos (zero-lt-suc n) (up_pos d)) (down_pos e)

-- so doubles that are equal have the same bits, unless both are zeros
pub same-double : (f : Format) (x y : Float) → T (fits f x) → T (fits f y) → sign_of x ≡ sign_of y → eq x y ≡ true → x ≡ y
unfolding eq
same-double f nan y p q s h = absurd (false≢true h)
same-double f (inf a) nan p q s h = absurd (false≢true h)
same-double f (inf a) (inf b) p q s h = ap inf s
same-double f (inf a) (fin b n d) p q s h = absurd (false≢true h)
same-double f (fin a m e) nan p q s h = absurd (false≢true h)
same-double f (fin a m e) (inf b) p q s h = absurd (false≢true h)
same-double f (fin a zero e) (fin b zero d) p q s h = λ i. fin (s i) zero ((zero_exp f a e p ∙ sym (zero_exp f b d q)) i)
same-double f (fin a zero e) (fin b (suc n) d) p q s h =
    let k : zero * up e * down d ≡ suc n * up d * down e = eqb-true (zero * up e * down d) (suc n * up d * down e) (and_1 (eqb (zero * up e * down d) (suc n * up d * down e)) (beq a b || eqb (zero * up e * down d) 0) h) in
    absurd (omega (arith, k, product-pos n d e))
same-double f (fin a (suc m) e) (fin b zero d) p q s h =
    let k : suc m * up e * down d ≡ zero * up d * down e = eqb-true (suc m * up e * down d) (zero * up d * down e) (and_1 (eqb (suc m * up e * down d) (zero * up d * down e)) (beq a b || eqb (suc m * up e * down d) 0) h) in
    absurd (omega (arith, k, product-pos m e d))
same-double f (fin a (suc m) e) (fin b (suc n) d) p q s h =
    let k : suc m * up e * down d ≡ suc n * up d * down e = eqb-true (suc m * up e * down d) (suc n * up d * down e) (and_1 (eqb (suc m * up e * down d) (suc n * up d * down e)) (beq a b || eqb (suc m * up e * down d) 0) h) in
    let r = one_way (suc m) (suc n) e d (is_odd f a m e p) (is_odd f b n d q) k in
    λ i. fin (s i) (r.0 i) (r.1 i)
