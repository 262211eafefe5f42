use borrow.Author.Rules.{Fits-under}
use native.Mathlib.Omega.{arith}
use lib.Count.{count_leading_zeros}
use Rattle.arithmetic.proofs.Normalized.{Shifted, shifted, radicand_least, radicand_most, rooted}
use Rattle.arithmetic.proofs.sqrt.infinitely_precise_root.Goals as goal
use Rattle.arithmetic.proofs.sqrt.infinitely_precise_root.Goals.{After-decoded-n}

sh : (c : After-decoded-n) → Shifted c.decoded-n.result.significand (count_leading_zeros 64 c.decoded-n.result.significand)
sh c = shifted c.decoded-n.result.significand c.decoded-n.ensures.some c.decoded-n.ensures.digits

pub overflow_sub-shift : goal.overflow_sub-shift
overflow_sub-shift c = omega (arith, sh c.before)

pub overflow_mul-n : goal.overflow_mul-n
overflow_mul-n c = let s = sh c.before.before.before in rw s.is (Fits-under _ _ _ (radicand_most s _) tt)

pub long_root-parts-requires : goal.long_root-parts-requires
long_root-parts-requires c = let s = sh c.before.before.before in rw s.is (radicand_least s _, radicand_most s _)

pub returns : goal.returns
returns c =
    let d = c.before.before.before.before.before in
    let n = d.decoded-n in
    let s = sh d in
    let l = c.long_root-parts in
    rooted d.args.x n.result.significand n.result.exponent (count_leading_zeros 64 n.result.significand) n.ensures s l.result.root l.result.rest (rw s.is at l.ensures)
