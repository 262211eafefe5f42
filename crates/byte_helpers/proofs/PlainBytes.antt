-- Loops that put doubles into a matrix of zeros, on bytes and on the doubles that they are.
use mathlib.Core.Path.{◌≡◌, refl, sym, ap, ◌∙◌}
use mathlib.Core.List.{List}
use mathlib.Core.Bool.{true}
use Prim.Native.Nat.{ℕ, ◌+◌, ◌*◌, ◌/◌, ◌≤◌, ◌<◌}
use native.Mathlib.Omega.{arith}
use lib.ListN.{length, get_or, set, take, drop, replicate, length-set, length-replicate}
use lib.Ieee.{Float, nan, binary64, of_bits, to_bits}
use lib.Ieee.Bits.{to_bits-of_bits}
use lib.Ieee.Scale.{finite}
use Rattle.arithmetic.specs.Double.{plus_zero, one}
use Rattle.arithmetic.specs.Loop.{range}
use Rattle.arithmetic.proofs.LoopLaws.{loop_start, loop_turn, loop_end}
use Rattle.arithmetic.proofs.OrderLaws.{finite_not_nan}
use Rattle.matrix.specs.Matrix.{zeros}
use Rattle.encoding.specs.Bytes.{low_first, bytes, doubles, double_bytes}
use Rattle.encoding.specs.Writing.{over}
use Rattle.encoding.proofs.Doubles.{pattern_is}
use Rattle.encoding.proofs.Rewritten.{over-double, zero_bytes}

-- after i of n turns
pub record Put (n i : ℕ) (body : ℕ → List Float → List Float) (mat : List ℕ) : Type 0 where
  pub high : i ≤ n
  pub count : length (range 0 i body (zeros (n * n))) ≡ n * n
  pub is : mat ≡ double_bytes (range 0 i body (zeros (n * n)))

pub put-start : {n : ℕ} {body : ℕ → List Float → List Float} {mat : List ℕ} (len : ℕ) → len ≡ 8 * (n * n) → mat ≡ replicate len 0 → Put n 0 body mat
put-start {n} {body} {mat} len h e =
    let z : zeros (n * n) ≡ range 0 0 body (zeros (n * n)) = loop_start 0 body (zeros (n * n)) in
    record { high = omega arith; count = ap length (sym z) ∙ length-replicate (n * n) plus_zero; is = e ∙ ap (λ (k : ℕ). replicate k 0) h ∙ sym (zero_bytes (n * n)) ∙ ap double_bytes z }

pub put-turn : {n i : ℕ} {body : ℕ → List Float → List Float} {mat mat' : List ℕ} (k v : ℕ) (x : Float) → Put n i body mat → i < n → k < n * n
    → ((m : List Float) → body i m ≡ set m k x) → v ≡ to_bits binary64 x → mat' ≡ over mat (8 * k) (bytes 8 v) → Put n (i + 1) body mat'
put-turn {n} {i} {body} {mat} {mat'} k v x P h q b ev e =
    let m = range 0 i body (zeros (n * n)) in
    let next : set m k x ≡ range 0 (i + 1) body (zeros (n * n)) = loop_turn 0 i body (zeros (n * n)) m (set m k x) (omega arith) refl (sym (b m)) in
    record {
      high = omega arith;
      count = ap length (sym next) ∙ length-set m k x ∙ P.count;
      is = e ∙ rw (P.is, ev) (over-double m k x (omega (arith, P.count))) ∙ ap double_bytes next;
    }

pub put-end : {n i : ℕ} {body : ℕ → List Float → List Float} {mat : List ℕ} → Put n i body mat → n ≤ i → mat ≡ double_bytes (range 0 n body (zeros (n * n)))
put-end {n} {i} {body} {mat} P h = P.is ∙ ap double_bytes (loop_end 0 i n body (zeros (n * n)) (range 0 i body (zeros (n * n))) P.high h refl)

-- ---- bits
pub one-bits : 0x3ff0_0000_0000_0000 ≡ to_bits binary64 one
unfolding to_bits of_bits
one-bits = refl

pub finite_bits : (b : List ℕ) (k v : ℕ) → k < length b / 8 → v ≡ low_first (take 8 (drop (8 * k) b)) → v < 0x1_0000_0000_0000_0000 → finite (get_or (doubles b) k nan) ≡ true → v ≡ to_bits binary64 (get_or (doubles b) k nan)
finite_bits b k v h e l f =
    let p : of_bits binary64 v ≡ get_or (doubles b) k nan = pattern_is b k v h e in
    sym (to_bits-of_bits binary64 v l (finite_not_nan (of_bits binary64 v) (ap finite p ∙ f))) ∙ ap (to_bits binary64) p
