use mathlib.Core.Path.{◌≡◌}
use Prim.Native.Nat.{◌/◌, ◌%◌}
use native.Mathlib.Omega.{arith}
use Rattle.answer_record.proofs.WriteFields.{head_written}
use Rattle.answer_record.proofs.write.write_head.Goals as goal

pub returns : goal.returns
returns c =
    let low = rw c.to_le_bytes.ensures at c.write_byte-last.ensures in
    let high = rw c.to_le_bytes.ensures at c.write_byte.ensures in
    let small : c.args.len / 256 % 256 ≡ c.args.len / 256 = omega arith in
    head_written _ _ _ _ _ _ _ _ _ _ c.requires.0 c.requires.1 c.write_byte-next.ensures low (rw small at high)
