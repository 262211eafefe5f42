use mathlib.Core.Path.{◌≡◌, refl}
use Prim.Native.Nat.{◌+◌, ◌*◌}
use native.Mathlib.Omega.{arith}
use lib.ListN.{get_or}
use Rattle.record.proofs.Walk.{part_is}
use Rattle.record.proofs.cursor.part_at.Goals as goal

pub returns : goal.returns
returns c =
    let b = c.args.b.now in
    let at = c.args.at in
    let len : c.from.result ≡ get_or b (at + 1) 0 + 256 * get_or b (at + 2) 0 = omega (arith, c.from.ensures, c.from_le_bytes.ensures) in
    rw len (part_is b at c.requires _ _ refl refl)
