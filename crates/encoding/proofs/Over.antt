-- Laws of bytes written into a buffer.
use mathlib.Core.Path.{◌≡◌, sym, ap, ◌∙◌}
use mathlib.Core.List.{List, [], ◌∷◌, ◌++◌, append-nil, append_assoc}
use Prim.Native.Nat.{ℕ, suc, ◌+◌, ◌≤◌, ◌<◌}
use native.Mathlib.Omega.{arith}
use lib.ListN.{length, set, take, drop, length-append, drop_of_length-le}
use borrow.Rule.Slice.PartMut.{put_mid}
use lib.Seq.{sets, sets-eq, length-sets, paste-zero, take-append_seam, drop-drop}
use Rattle.encoding.specs.Writing.{over}

-- byte by byte
over-sets : (out : List ℕ) (at : ℕ) (xs : List ℕ) → at + length xs ≤ length out → over out at xs ≡ sets out at xs
unfolding over
over-sets out at xs h = sym (sets-eq xs out at h)

sets_more : (out : List ℕ) (at : ℕ) (xs ys : List ℕ) → sets (sets out at xs) (at + length xs) ys ≡ sets out at (xs ++ ys)
sets_more out at [] ys = ap (λ (k : ℕ). sets out k ys) (omega arith)
sets_more out at (x ∷ xs) ys = ap (λ (k : ℕ). sets (sets (set out at x) (suc at) xs) k ys) (omega arith) ∙ sets_more (set out at x) (suc at) xs ys

pub over_none : (out : List ℕ) (at : ℕ) → over out at [] ≡ out
unfolding over
over_none out at = sym (paste-zero out at [])

pub over-byte : (out : List ℕ) (at v : ℕ) → at < length out → set out at v ≡ over out at (v ∷ [])
over-byte out at v h = sym (over-sets out at (v ∷ []) (omega arith))

pub length_over : (out : List ℕ) (at : ℕ) (xs : List ℕ) → at + length xs ≤ length out → length (over out at xs) ≡ length out
length_over out at xs h = ap length (over-sets out at xs h) ∙ length-sets out at xs

pub over-more : (out : List ℕ) (at : ℕ) (xs ys : List ℕ) → at + (length xs + length ys) ≤ length out → over (over out at xs) (at + length xs) ys ≡ over out at (xs ++ ys)
over-more out at xs ys h =
    let l : length (sets out at xs) ≡ length out = length-sets out at xs in
    ap (λ (o : List ℕ). over o (at + length xs) ys) (over-sets out at xs (omega arith))
    ∙ over-sets (sets out at xs) (at + length xs) ys (omega arith)
    ∙ sets_more out at xs ys
    ∙ sym (over-sets out at (xs ++ ys) (omega (arith, length-append xs ys)))

-- a part of the buffer was written
pub over-part : (out : List ℕ) (at k : ℕ) (xs : List ℕ) → length xs ≡ k → put_mid at k out xs ≡ over out at xs
unfolding over
over-part out at k xs h = rw (drop-drop, ← h) (sym (append_assoc (take at out) xs (drop (at + length xs) out)))

-- two writers in turn
pub over-then : (out a r : List ℕ) (at p next m n : ℕ) (xs ys : List ℕ) → length xs ≡ m → length ys ≡ n → at + (m + n) ≤ length out
    → (a ≡ over out at xs) × (p ≡ at + m) → (r ≡ over a p ys) × (next ≡ p + n) → (r ≡ over out at (xs ++ ys)) × (next ≡ at + (m + n))
over-then out a r at p next m n xs ys e f h u v =
    let q : p ≡ at + length xs = omega arith in
    (v.0 ∙ rw (u.0, q) (over-more out at xs ys (omega arith)), omega arith)

-- a byte, then the rest
pub over-rest : (out : List ℕ) (at x : ℕ) (xs : List ℕ) → at + length (x ∷ xs) ≤ length out → over (set out at x) (at + 1) xs ≡ over out at (x ∷ xs)
over-rest out at x xs h = rw (over-byte out at x (omega arith)) (over-more out at (x ∷ []) xs (omega arith))

-- from position 0: what was written, then what stood there
pub over-front : (out xs : List ℕ) → over out 0 xs ≡ xs ++ drop (length xs) out
unfolding over
over-front out xs = let n : 0 + length xs ≡ length xs = omega arith in ap (λ (k : ℕ). xs ++ drop k out) n

-- a buffer of the same length is written in full
pub over-all : (out xs : List ℕ) → length xs ≡ length out → over out 0 xs ≡ xs
over-all out xs e = over-front out xs ∙ ap (λ (ys : List ℕ). xs ++ ys) (drop_of_length-le out {i = length xs} (omega arith)) ∙ append-nil xs

pub take-over : (out xs : List ℕ) → take (length xs) (over out 0 xs) ≡ xs
take-over out xs = rw over-front (take-append_seam xs (drop (length xs) out))
