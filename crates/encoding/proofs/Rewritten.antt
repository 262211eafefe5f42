-- One double written over another among the bytes of doubles, and the bytes of zeros.
use mathlib.Core.Path.{◌≡◌, refl, ap, ◌∙◌}
use mathlib.Core.List.{List, [], ◌∷◌, ◌++◌, map}
use Prim.Native.Nat.{ℕ, zero, suc, ◌*◌, ◌<◌}
use native.Mathlib.Omega.{arith}
use lib.ListN.{length, set, replicate, length-map}
use lib.Ieee.{Float, binary64, of_bits, to_bits}
use Rattle.arithmetic.specs.Double.{plus_zero}
use Rattle.matrix.specs.Matrix.{zeros}
use Rattle.matrix.proofs.SwapLaws.{map-set}
use Rattle.encoding.specs.Bytes.{bytes, double_bytes}
use Rattle.encoding.specs.Elements.{joined}
use Rattle.encoding.specs.Writing.{over}
use Rattle.encoding.proofs.ByteLaws.{length-bytes}
use Rattle.encoding.proofs.Elements.{Eights, over-set}

abbrev eight : Float → List ℕ
eight x = bytes 8 (to_bits binary64 x)

content-joined : (xs : List Float) → double_bytes xs ≡ joined (map eight xs)
unfolding double_bytes joined
content-joined [] = refl
content-joined (x ∷ xs) = ap (λ (y : List ℕ). eight x ++ y) (content-joined xs)

content-eights : (xs : List Float) → Eights (map eight xs)
content-eights [] k h = absurd (omega arith)
content-eights (x ∷ xs) zero h = length-bytes 8 (to_bits binary64 x)
content-eights (x ∷ xs) (suc k) h = content-eights xs k (omega arith)

pub over-double : (xs : List Float) (k : ℕ) (x : Float) → k < length xs → over (double_bytes xs) (8 * k) (bytes 8 (to_bits binary64 x)) ≡ double_bytes (set xs k x)
over-double xs k x h =
    ap (λ (b : List ℕ). over b (8 * k) (eight x)) (content-joined xs)
    ∙ over-set (map eight xs) (content-eights xs) k (eight x) (omega (arith, length-map xs eight)) (length-bytes 8 (to_bits binary64 x))
    ∙ rw (← map-set eight xs k x, content-joined (set xs k x))

-- eight zeros and more
zeros-more : (k : ℕ) → replicate (8 * suc k) 0 ≡ bytes 8 0 ++ replicate (8 * k) 0
unfolding bytes
zeros-more k = let e : 8 * suc k ≡ suc (suc (suc (suc (suc (suc (suc (suc (8 * k)))))))) = omega arith in rw e

zero_pattern : to_bits binary64 plus_zero ≡ 0
unfolding to_bits of_bits
zero_pattern = refl

pub zero_bytes : (k : ℕ) → double_bytes (zeros k) ≡ replicate (8 * k) 0
unfolding double_bytes
zero_bytes zero = refl
zero_bytes (suc k) = ap (λ (v : ℕ). bytes 8 v ++ double_bytes (zeros k)) zero_pattern ∙ ap (λ (y : List ℕ). bytes 8 0 ++ y) (zero_bytes k) ∙ rw zeros-more
