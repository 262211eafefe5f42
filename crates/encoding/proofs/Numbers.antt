-- Numbers read from bytes, and the patterns of finite doubles.
use mathlib.Core.Path.{◌≡◌, refl, sym, ap, ◌∙◌}
use mathlib.Core.List.{List, [], ◌∷◌}
use mathlib.Core.Bool.{Bool, true, false, not, cond}
use Prim.Native.Nat.{ℕ, zero, suc, ◌+◌, ◌-◌, ◌*◌, ◌/◌, ◌%◌, ◌^◌, ◌≤◌, ◌<◌}
use native.Mathlib.Nat.{lt_of_lt_of_le, one-le-pow, pow-le-pow_right, div-div-eq-div-mul, pow-suc}
use native.Mathlib.Omega.{arith}
use Rattle.std.specs.Int.{w32, w64, byte_worth, byte_at, sum_through, from_le_bytes, bytes_low_first, to_le_bytes}
use lib.ListN.{length, get_or, take, drop}
use lib.Seq.{drop-cons, get_or-drop, take_all}
use lib.Dec.{T, eqb, leb}
use lib.Ieee.{nan, inf, binary64, of_bits, nan_bits, of_fields, odd, top, hid}
use lib.Ieee.Bits.{nan_bits_is}
use lib.Ieee.Scale.{finite}
use Rattle.arithmetic.proofs.OrderLaws.{finite_not_nan}
use Rattle.encoding.specs.Bytes.{low_first, bytes}

-- ---- the bytes from a position on
pub take_more : (b : List ℕ) (k i : ℕ) → i < length b → take (suc k) (drop i b) ≡ get_or b i 0 ∷ take k (drop (suc i) b)
take_more b k i h = rw (drop-cons b i 0)

pub number-take_lt : (k : ℕ) (l : List ℕ) → ((i : ℕ) → get_or l i 0 < 256) → low_first (take k l) < 256 ^ k
unfolding low_first
number-take_lt zero l h = omega arith
number-take_lt (suc k) [] h = one-le-pow (suc k) 256 (omega arith)
number-take_lt (suc k) (x ∷ xs) h =
    let l : low_first (take k xs) < 256 ^ k = number-take_lt k xs (λ i. h (suc i)) in
    omega (arith, h 0)

module _ (b : List ℕ) (at k : ℕ) where
  pub number_small : ((i : ℕ) → get_or b i 0 < 256) → k ≤ 7 → low_first (take k (drop (at + (8 - k)) b)) < 0x100_0000_0000_0000
  number_small h l =
      lt_of_lt_of_le (number-take_lt k (drop (at + (8 - k)) b) (λ i. rw get_or-drop (h (at + (8 - k) + i)))) (pow-le-pow_right {n = 256} (omega arith) {i = k} {j = 7} l)

-- ---- the number that the library reads from bytes
worth_more : (k g : ℕ) → byte_worth (suc k) g ≡ 256 * byte_worth k g
worth_more zero g = omega arith
worth_more (suc k) g = rw (pow-suc 256 (suc k)) (grind arith)

low_first-more : (k : ℕ) (xs : List ℕ) → low_first (take (suc k) xs) ≡ low_first (take k xs) + byte_worth k (get_or xs k 0)
unfolding low_first
low_first-more zero [] = refl
low_first-more zero (x ∷ xs) = omega arith
low_first-more (suc k) [] = omega arith
low_first-more (suc k) (x ∷ xs) = omega (arith, low_first-more k xs, worth_more k (get_or xs k 0))

sum_is : (k : ℕ) (xs : List ℕ) → sum_through (λ i. byte_worth i (get_or xs i 0)) k ≡ low_first (take (suc k) xs)
unfolding low_first
sum_is zero [] = refl
sum_is zero (x ∷ xs) = omega arith
sum_is (suc k) xs = rw (sum_is k xs) (sym (low_first-more (suc k) xs))

pub eight-read : (xs : List ℕ) → length xs ≡ 8 → from_le_bytes w64 xs ≡ low_first xs
eight-read xs h = sum_is 7 xs ∙ ap low_first (take_all 8 xs (omega arith))

pub four-read : (xs : List ℕ) → length xs ≡ 4 → from_le_bytes w32 xs ≡ low_first xs
four-read xs h = sum_is 3 xs ∙ ap low_first (take_all 4 xs (omega arith))

-- .. and the bytes that it writes of a number
byte_is : (i v : ℕ) → byte_at i v ≡ v / 256 ^ i % 256
byte_is zero v = omega arith
byte_is (suc i) v = refl

written_from : (i k v : ℕ) → bytes_low_first i k v ≡ bytes k (v / 256 ^ i)
unfolding bytes
written_from i zero v = refl
written_from i (suc k) v =
    let e : v / 256 ^ i / 256 ≡ v / 256 ^ suc i = div-div-eq-div-mul v (256 ^ i) 256 ∙ ap (λ (n : ℕ). v / n) (sym (pow-suc 256 i)) in
    rw (byte_is, e, written_from (suc i) k v) refl

pub eight-written : (v : ℕ) → to_le_bytes w64 v ≡ bytes 8 v
eight-written v = let e : v / 1 ≡ v = omega arith in written_from 0 8 v ∙ ap (bytes 8) e

-- ---- a pattern is finite where the exponent's field is not all ones
odd_finite : (d : ℕ) (s : Bool) (q k l : ℕ) → finite (odd d s q k l) ≡ true
unfolding odd
odd_finite d s zero k l = refl
odd_finite d s (suc q) k l = refl

fields_finite : (s : Bool) (x t : ℕ) → finite (of_fields binary64 s x t) ≡ not (eqb x 2047)
unfolding of_fields
fields_finite s zero t = odd_finite 53 s t 0 1074
fields_finite s (suc x) t = by_cases (eqb (suc x) 2047) (eqb t 0)
  where
    by_cases : (p q : Bool) → finite (cond p (cond q (inf s) nan) (odd 53 s (0x10_0000_0000_0000 + t) x 1074)) ≡ not p
    by_cases true true = refl
    by_cases true false = refl
    by_cases false q = odd_finite 53 s (0x10_0000_0000_0000 + t) x 1074

pub bits-finite : (v : ℕ) → finite (of_bits binary64 v) ≡ not (eqb (v % 0x8000_0000_0000_0000 / 0x10_0000_0000_0000) 2047)
unfolding of_bits
bits-finite v = fields_finite (leb (top binary64) v) (v % top binary64 / hid binary64) (v % hid binary64)

pub bits-no_nan : (v : ℕ) → finite (of_bits binary64 v) ≡ true → T (not (nan_bits binary64 v))
bits-no_nan v e = rw nan_bits_is (finite_not_nan (of_bits binary64 v) e)

-- ---- a number is read back from its bytes
pub number-bytes : (k v : ℕ) → v < 256 ^ k → low_first (bytes k v) ≡ v
unfolding low_first bytes
number-bytes zero v h = omega arith
number-bytes (suc k) v h =
    let e : low_first (bytes k (v / 256)) ≡ v / 256 = number-bytes k (v / 256) (omega arith) in
    rw e (omega arith)
