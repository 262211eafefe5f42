-- Doubles are read back from their bytes.
use mathlib.Core.Path.{◌≡◌, ◌∙◌}
use mathlib.Core.List.{List, [], ◌∷◌}
use Prim.Native.Nat.{ℕ, zero, suc, ◌+◌, ◌*◌, ◌/◌, ◌<◌}
use native.Mathlib.Omega.{arith}
use lib.ListN.{length, get_or, take, drop}
use lib.Seq.{take_at, drop-append-add, ext_get_or}
use lib.Dec.{T}
use lib.Ieee.{Float, nan, binary64, to_bits, fits}
use lib.Ieee.Bits.{of_bits-to_bits, to_bits-lt}
use Rattle.arithmetic.specs.DoubleList.{AllDoubles}
use Rattle.encoding.specs.Bytes.{low_first, bytes, doubles, double_bytes}
use Rattle.encoding.proofs.Numbers.{number-bytes}
use Rattle.encoding.proofs.ByteLaws.{length-bytes, length-content}
use Rattle.encoding.proofs.Doubles.{doubles-length, doubles-at}

module _ (x : Float) (h : T (fits binary64 x)) where
  pub pattern_of : low_first (bytes 8 (to_bits binary64 x)) ≡ to_bits binary64 x
  pattern_of = number-bytes 8 (to_bits binary64 x) (to_bits-lt binary64 x h)

-- the bytes of one double of a content
content-at : (xs : List Float) (k : ℕ) → k < length xs → take 8 (drop (8 * k) (double_bytes xs)) ≡ bytes 8 (to_bits binary64 (get_or xs k nan))
unfolding double_bytes
content-at [] k h = absurd (omega arith)
content-at (x ∷ xs) zero h = take_at (bytes 8 (to_bits binary64 x)) (double_bytes xs) 8 (length-bytes 8 (to_bits binary64 x))
content-at (x ∷ xs) (suc k) h =
    let v = to_bits binary64 x in
    let e : 8 * suc k ≡ length (bytes 8 v) + 8 * k = omega (arith, length-bytes 8 v) in
    rw (e, drop-append-add (bytes 8 v) (double_bytes xs) (8 * k)) (content-at xs k (omega arith))

pub doubles-content : (xs : List Float) → AllDoubles xs → doubles (double_bytes xs) ≡ xs
doubles-content xs h = ext_get_or nan (doubles (double_bytes xs)) xs size at
  where
    eights : length (double_bytes xs) / 8 ≡ length xs
    eights = omega (arith, length-content xs)

    size : length (doubles (double_bytes xs)) ≡ length xs
    size = doubles-length (double_bytes xs) ∙ eights

    at : (k : ℕ) → k < length (doubles (double_bytes xs)) → get_or (doubles (double_bytes xs)) k nan ≡ get_or xs k nan
    at k l =
        let q : k < length xs = omega (arith, size) in
        let x = get_or xs k nan in
        doubles-at (double_bytes xs) k nan (omega (arith, eights)) ∙ rw (content-at xs k q, pattern_of x (h k q), of_bits-to_bits binary64 x (h k q))
