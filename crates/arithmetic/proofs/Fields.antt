-- The second stage begins: what the fields of a positive double's bit pattern say.
use mathlib.Core.Path.{◌≡◌, refl, sym, ap, ◌∙◌, subst}
use mathlib.Core.Bool.{Bool, true, false, not, cond}
use mathlib.Core.Logic.{inl, inr}
use Prim.Native.Nat.{ℕ, zero, suc, ◌+◌, ◌-◌, ◌*◌, ◌/◌, ◌%◌, ◌^◌, ◌<◌}
use native.Mathlib.Omega.{arith}
use native.Mathlib.Nat.{mul-pos, eq-zero-or-pos}
use lib.Dec.{T, leb, eqb, lit<, ltb→lt, nleb→lt}
use lib.Ieee.{Float, nan, inf, fin, binary64, odd, down, of_bits, to_bits, of_fields, is_nan, fits}
use lib.Ieee.Exact.{HasValue, odd_sign}
use lib.Ieee.Fits.{up_pos}
use lib.Ieee.Bits.{of_bits-to_bits}
use lib.Arith.{lt_of_le-ne}
use lib.Ieee.Positive.{positive, first_pos}
use Rattle.arithmetic.specs.Sqrt.{magnitude}
use Rattle.arithmetic.specs.SqrtStages.{Significand}
use Rattle.arithmetic.proofs.Packing.{magnitude-is}

record Value (v : Float) (s : Bool) (a : ℕ) : Type 0 where
  sign : s ≡ false
  is : magnitude v ≡ a
  some : 0 < a

value : (v : Float) (s : Bool) (a : ℕ) → HasValue v s a (2 ^ 1074) → T (positive v) → Value v s a
unfolding magnitude
value nan s a h p = absurd p
value (inf t) s a h p = absurd h
value (fin true m e) s a h p = absurd p
value (fin false m e) s a h p =
    record {
      sign = sym h.0;
      is = magnitude-is m e a h.1;
      some = first_pos a (down e) (subst (λ (n : ℕ). 0 < n) h.1 (mul-pos (mul-pos (ltb→lt 0 m p) (up_pos e)) (lit< tt)));
    }

low_field : (s : Bool) (t : ℕ) → T (positive (of_fields binary64 s zero t)) → Value (of_fields binary64 s zero t) s (t * 2 ^ 0)
unfolding of_fields
low_field s t p = value (odd 53 s t 0 1074) s (t * 2 ^ 0) (odd_sign 53 s t 0 1074) p

record High (v : Float) (s : Bool) (x t : ℕ) : Type 0 where
  fine : suc x ≡ 2047 → ⊥
  val : Value v s ((2 ^ 52 + t) * 2 ^ x)

high_field : (s : Bool) (x t : ℕ) → T (positive (of_fields binary64 s (suc x) t)) → High (of_fields binary64 s (suc x) t) s x t
unfolding of_fields
high_field s x t p = go (eqb (suc x) 2047) (λ (e : suc x ≡ 2047). subst (λ (n : ℕ). T (eqb n 2047)) (sym e) tt) p
  where
    none : (c : Bool) → T (positive (cond c (inf s) nan)) → ⊥
    none true p = p
    none false p = p

    go : (b : Bool) → (suc x ≡ 2047 → T b) → T (positive (cond b (cond (eqb t 0) (inf s) nan) (odd 53 s (2 ^ 52 + t) x 1074))) → High (cond b (cond (eqb t 0) (inf s) nan) (odd 53 s (2 ^ 52 + t) x 1074)) s x t
    go true h p = absurd (none (eqb t 0) p)
    go false h p = record { fine = h; val = value (odd 53 s (2 ^ 52 + t) x 1074) s ((2 ^ 52 + t) * 2 ^ x) (odd_sign 53 s (2 ^ 52 + t) x 1074) p }

below : (b : ℕ) → leb (2 ^ 63) b ≡ false → b < 2 ^ 63
below b e = nleb→lt (2 ^ 63) b (subst (λ (c : Bool). T (not c)) (sym e) tt)

-- what the pattern b of v says: the digits field alone where the exponent's field is 0, else with the leading digit
abbrev Reads : Float → ℕ → Type 0
Reads v b = (b / 2 ^ 52 ≡ 0 → Significand (magnitude v) (b % 2 ^ 52) 0) × ((b / 2 ^ 52 ≡ 0 → ⊥) → Significand (magnitude v) (b % 2 ^ 52 + 2 ^ 52) (b / 2 ^ 52 - 1))

read : (s : Bool) (x t b : ℕ) → leb (2 ^ 63) b ≡ s → b % 2 ^ 63 / 2 ^ 52 ≡ x → b % 2 ^ 52 ≡ t → T (positive (of_fields binary64 s x t)) → Reads (of_fields binary64 s x t) b
read s zero t b es ex et p =
    let v = low_field s t p in
    let l : b < 2 ^ 63 = below b (es ∙ v.sign) in
    let vs : 0 < t * 2 ^ 0 = v.some in (
      (λ e. record { some = omega arith; digits = omega arith; most = omega arith; is = ap (λ (n : ℕ). n * 2 ^ 0) et ∙ sym v.is }),
      (λ e. absurd (e (omega arith))),
    )
read s (suc x) t b es ex et p =
    let h = high_field s x t p in
    let l : b < 2 ^ 63 = below b (es ∙ h.val.sign) in
    let q : b / 2 ^ 52 ≡ suc x = omega arith in
    let f : b / 2 ^ 52 < 2047 = lt_of_le-ne (omega arith) (λ (z : b / 2 ^ 52 ≡ 2047). h.fine (sym q ∙ z)) in
    let k : b / 2 ^ 52 - 1 ≡ x = omega arith in
    let g : b % 2 ^ 52 + 2 ^ 52 ≡ 2 ^ 52 + t = omega arith in (
      (λ e. absurd (omega arith)),
      (λ e. record { some = omega arith; digits = omega arith; most = omega arith; is = rw (k, g) (sym h.val.is) }),
    )

reads : (b : ℕ) → T (positive (of_bits binary64 b)) → Reads (of_bits binary64 b) b
unfolding of_bits
reads b p = read (leb (2 ^ 63) b) (b % 2 ^ 63 / 2 ^ 52) (b % 2 ^ 52) b refl refl refl p

-- of a positive number, by its pattern
module _ (x : Float) (f : T (fits binary64 x)) (p : T (positive x)) where
  of : Reads x (to_bits binary64 x)
  of = subst (λ (v : Float). Reads v (to_bits binary64 x)) (of_bits-to_bits binary64 x f) (reads (to_bits binary64 x) (subst (λ (v : Float). T (positive v)) (sym (of_bits-to_bits binary64 x f)) p))

  pub subnormal : to_bits binary64 x / 2 ^ 52 ≡ 0 → Significand (magnitude x) (to_bits binary64 x % 2 ^ 52) 0
  subnormal e = of.0 e

  pub normal : (to_bits binary64 x / 2 ^ 52 ≡ 0 → ⊥) → Significand (magnitude x) (to_bits binary64 x % 2 ^ 52 + 2 ^ 52) (to_bits binary64 x / 2 ^ 52 - 1)
  normal e = of.1 e

-- every positive double is a number of 53 digits times a power of two
pub record Held (n : ℕ) : Type 0 where
  pub significand : ℕ
  pub exponent : ℕ
  pub value : Significand n significand exponent

pub held : (x : Float) → T (fits binary64 x) → T (positive x) → Held (magnitude x)
held x f p = elim (eq-zero-or-pos (to_bits binary64 x / 2 ^ 52)) [
  | inl z ↦ record { significand = to_bits binary64 x % 2 ^ 52; exponent = 0; value = subnormal x f p z }
  | inr g ↦ record {
    significand = to_bits binary64 x % 2 ^ 52 + 2 ^ 52;
    exponent = to_bits binary64 x / 2 ^ 52 - 1;
    value = normal x f p (λ (z : to_bits binary64 x / 2 ^ 52 ≡ 0). omega arith);
  }
]

pub no_nan : (x : Float) → T (positive x) → T (not (is_nan x))
unfolding is_nan
no_nan nan p = absurd p
no_nan (inf s) p = tt
no_nan (fin s m e) p = tt
