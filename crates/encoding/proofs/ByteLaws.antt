-- Lengths of bytes and contents.
use mathlib.Core.Path.{◌≡◌, refl, ap, ◌∙◌}
use mathlib.Core.List.{List, [], ◌∷◌}
use Prim.Native.Nat.{ℕ, zero, suc, ◌*◌, ◌/◌, ◌%◌}
use native.Mathlib.Omega.{arith}
use borrow.Author.Tests.{eq-eqb, eqb-true}
use lib.Dec.{eqb}
use lib.ListN.{length, length-append}
use lib.Ieee.{Float, binary64, to_bits}
use Rattle.arithmetic.proofs.Cases.{same_tests}
use Rattle.encoding.specs.Bytes.{bytes, double_bytes}

pub length-bytes : (k v : ℕ) → length (bytes k v) ≡ k
unfolding bytes
length-bytes zero v = refl
length-bytes (suc k) v = ap suc (length-bytes k (v / 256))

pub length-content : (x : List Float) → length (double_bytes x) ≡ 8 * length x
unfolding double_bytes
length-content [] = refl
length-content (x ∷ xs) =
    length-append (bytes 8 (to_bits binary64 x)) (double_bytes xs)
    ∙ omega (arith, length-bytes 8 (to_bits binary64 x), length-content xs)

-- as many doubles as eight times as many bytes
pub eights : (k len : ℕ) → len % 8 ≡ 0 → eqb (len / 8) k ≡ eqb len (8 * k)
eights k len h = same_tests (eqb (len / 8) k) (eqb len (8 * k))
    (λ t. eq-eqb len (8 * k) (omega (arith, eqb-true (len / 8) k t)))
    (λ t. eq-eqb (len / 8) k (omega (arith, eqb-true len (8 * k) t)))

-- .. and as many contract numbers as four times as many
pub fours : (k len : ℕ) → len % 4 ≡ 0 → eqb (len / 4) k ≡ eqb len (4 * k)
fours k len h = same_tests (eqb (len / 4) k) (eqb len (4 * k))
    (λ t. eq-eqb len (4 * k) (omega (arith, eqb-true (len / 4) k t)))
    (λ t. eq-eqb (len / 4) k (omega (arith, eqb-true len (4 * k) t)))
