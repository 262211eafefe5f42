use mathlib.Core.Path.{◌≡◌, ap, ◌∙◌}
use Prim.Native.Nat.{◌+◌, ◌-◌}
use native.Mathlib.Omega.{arith}
use lib.ListN.{length}
use Rattle.encoding.specs.Bytes.{low_first}
use Rattle.encoding.proofs.Numbers.{eight-read}
use Rattle.encoding.proofs.read.read_number.Goals as goal

pub returns : goal.returns
returns c =
    let w = rw c.unwrap.ensures at c.try_into.ensures.1 in
    let e : c.args.at + 8 - c.args.at ≡ 8 = omega arith in
    c.from_le_bytes.ensures ∙ eight-read _ (ap length w.same ∙ w.long) ∙ ap low_first w.same ∙ rw e
