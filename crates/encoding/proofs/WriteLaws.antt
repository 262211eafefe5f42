-- Turns of the writing loops: what is left, written over what there is, stays the same.
use mathlib.Core.Path.{◌≡◌, sym, ◌∙◌}
use mathlib.Core.List.{List, ◌++◌}
use Prim.Native.Nat.{ℕ, suc, ◌+◌, ◌*◌, ◌-◌, ◌≤◌, ◌<◌}
use native.Mathlib.Numerals.{add-one}
use native.Mathlib.Omega.{arith}
use lib.ListN.{length, set, drop, get_or, length-drop, drop_of_length-le}
use lib.Seq.{drop-cons}
use lib.Ieee.{Float, nan, binary64, to_bits}
use Rattle.encoding.specs.Bytes.{bytes, double_bytes}
use Rattle.encoding.specs.Writing.{over}
use Rattle.encoding.proofs.ByteLaws.{length-bytes, length-content}
use Rattle.encoding.proofs.Over.{over_none, over-more, over-rest}

pub order-turn : (out all p : List ℕ) (at k v : ℕ) → k < length p → at + length p ≤ length out → v ≡ get_or p k 0
    → over out (at + k) (drop k p) ≡ all → over (set out (at + k) v) (at + (k + 1)) (drop (k + 1) p) ≡ all
order-turn out all p at k v h f g e =
    let n : at + (k + 1) ≡ at + k + 1 = omega arith in
    rw (n, g, add-one k) (over-rest out (at + k) (get_or p k 0) (drop (suc k) p) (omega (arith, length-drop (suc k) p)) ∙ (rw (drop-cons p k 0 h) at e))

pub order-end : (out all p : List ℕ) (at k : ℕ) → length p ≤ k → over out (at + k) (drop k p) ≡ all → out ≡ all
order-end out all p at k h e = sym (over_none out (at + k)) ∙ (rw (drop_of_length-le p h) at e)

pub doubles-turn : (out out' all : List ℕ) (x : List Float) (next next' k : ℕ)
    → (out' ≡ over out next (bytes 8 (to_bits binary64 (get_or x k nan)))) × (next' ≡ next + 8) → over out next (double_bytes (drop k x)) ≡ all
    → k < length x → next + 8 * (length x - k) ≤ length out → over out' next' (double_bytes (drop (k + 1) x)) ≡ all
unfolding double_bytes
doubles-turn out out' all x next next' k w e h f =
    let first = bytes 8 (to_bits binary64 (get_or x k nan)) in
    let rest = double_bytes (drop (suc k) x) in
    let b : length first ≡ 8 = length-bytes 8 (to_bits binary64 (get_or x k nan)) in
    let c : length rest ≡ 8 * length (drop (suc k) x) = length-content (drop (suc k) x) in
    let m : over (over out next first) (next + 8) rest ≡ over out next (first ++ rest) = rw b at (over-more out next first rest (omega (arith, length-drop (suc k) x))) in
    rw (w.0, w.1, add-one k) (m ∙ (rw (drop-cons x k nan h) at e))

pub doubles-end : (out all : List ℕ) (x : List Float) (next k : ℕ) → length x ≤ k → over out next (double_bytes (drop k x)) ≡ all → out ≡ all
unfolding double_bytes
doubles-end out all x next k h e = sym (over_none out next) ∙ (rw (drop_of_length-le x h) at e)
