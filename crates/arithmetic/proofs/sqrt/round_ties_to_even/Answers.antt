use mathlib.Core.Path.{◌≡◌}
use mathlib.Core.Bool.{cond}
use Prim.Native.Nat.{◌+◌, ◌*◌, ◌/◌, ◌≤◌}
use native.Mathlib.Omega.{arith}
use lib.Ieee.Nearest.{closest}
use Rattle.arithmetic.proofs.Written.{writes, writes_no_nan, cut_digit, half_digit, bits_most}
use Rattle.arithmetic.proofs.sqrt.round_ties_to_even.Goals as goal
use Rattle.arithmetic.proofs.sqrt.round_ties_to_even.Goals.{Joined-r, else-r, then-r}

-- what is added to the digits kept makes them the nearest
nearest : (c : Joined-r) → let r = c.args.r in closest (2 * r.whole + cond r.cut 1 0) 4 ≡ r.whole / 2 + c.if-r.up
nearest c =
    let r = c.args.r in
    elim c.if-r.branch [ then-r t ↦ rw t.up-is (cut_digit r.whole r.cut t.if-r.true) | else-r t ↦ rw t.up-is (half_digit r.whole r.cut t.if-r.false) ]

up-most : (c : Joined-r) → c.if-r.up ≤ 1
up-most c = elim c.if-r.branch [ then-r t ↦ omega (arith, t.up-is) | else-r t ↦ omega (arith, t.up-is, bits_most c.args.r.whole) ]

pub float_from_bits-result : goal.float_from_bits-result
float_from_bits-result c =
    let j = c.before.before in
    let r = j.args.r in
    writes_no_nan r.whole r.cut r.scale (r.whole / 2 + j.if-r.up) (omega arith) (omega arith) (omega arith) (nearest j) (omega arith) (omega (arith, up-most j))

pub returns : goal.returns
returns c =
    let j = c.before.before in
    let r = j.args.r in
    writes r.whole r.cut r.scale (r.whole / 2 + j.if-r.up) (omega arith) (omega arith) (omega arith) (nearest j) (omega arith) (omega (arith, up-most j))
