use mathlib.Core.Path.{◌≡◌}
use Prim.Native.Nat.{◌+◌, ◌*◌}
use lib.ListN.{length, drop}
use Rattle.encoding.specs.Bytes.{double_bytes}
use Rattle.encoding.specs.Writing.{over}
use Rattle.encoding.proofs.write.write_doubles.Given as goal

abbrev pub invariant-loop-v : goal.invariant-loop-v
invariant-loop-v l = (length l.out ≡ length l.initial.out) × (l.next ≡ l.at + 8 * l.v-index) × (over l.out l.next (double_bytes (drop l.v-index l.x)) ≡ over l.initial.out l.at (double_bytes l.x))
