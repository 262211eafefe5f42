use Rattle.std.proofs.Common.{◌≡◌, ◌≤◌, ℕ, List, length, take, ◌+◌, ◌-◌, ◌++◌, ap, ◌∙◌, arith, rules}
use Rattle.std.proofs.Math.Seq.{take-append-add}
use Rattle.std.proofs.lemmas.List.{take-append-le, length-take-le}
use Rattle.std.proofs.KnownBytes.{Consumes-trans}
use borrow.Rule.Slice.PartMut.{put_mid, post_of}
use Rattle.reading.proofs.read_full.Goals as goal

-- what stood at the front, then what was read behind it
front : (a k n : ℕ) (xs ys : List ℕ) → a ≤ length xs → n ≤ length ys → take (a + n) (put_mid a k xs ys) ≡ take a xs ++ take n ys
front a k n xs ys within fits =
    let rest = post_of a k xs in
    let t : take (length (take a xs) + n) (take a xs ++ (ys ++ rest)) ≡ take a xs ++ take n (ys ++ rest) = take-append-add (take a xs) (ys ++ rest) n in
    (rw (length-take-le a xs within) at t) ∙ ap (λ (l : List ℕ). take a xs ++ l) (take-append-le n ys rest fits)

pub loop-done-preserved : goal.loop-done-preserved
loop-done-preserved g c =
    let f = front c.loop-done.done (length c.loop-done.buf - c.loop-done.done) c.in-Ok.n c.loop-done.buf c.read.new.buf (omega arith) c.in-Ok.ensures.bound.0 in
    (search rules, search rules, rw f (Consumes-trans _ _ _ _ _ c.loop-done.invariant.2 c.in-Ok.ensures.bytes.0))
