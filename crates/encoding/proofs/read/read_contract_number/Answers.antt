use mathlib.Core.Path.{◌≡◌, ap, ◌∙◌}
use Prim.Native.Nat.{◌+◌, ◌-◌}
use native.Mathlib.Omega.{arith}
use lib.ListN.{length}
use Rattle.encoding.specs.Bytes.{low_first}
use Rattle.encoding.proofs.Numbers.{four-read}
use Rattle.encoding.proofs.read.read_contract_number.Goals as goal

pub returns : goal.returns
returns c =
    let w = rw c.unwrap.ensures at c.try_into.ensures.1 in
    let e : c.args.at + 4 - c.args.at ≡ 4 = omega arith in
    c.from_le_bytes.ensures ∙ four-read _ (ap length w.same ∙ w.long) ∙ ap low_first w.same ∙ rw e
