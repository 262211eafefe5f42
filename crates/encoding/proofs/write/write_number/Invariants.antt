use mathlib.Core.Path.{◌≡◌}
use Prim.Native.Nat.{◌+◌}
use lib.ListN.{length, drop}
use Rattle.encoding.specs.Writing.{over}
use Rattle.encoding.proofs.write.write_number.Given as goal

abbrev pub invariant-loop-k : goal.invariant-loop-k
invariant-loop-k l = (length l.out ≡ length l.initial.out) × (over l.out (l.at + l.k) (drop l.k l.byte-items) ≡ over l.initial.out l.at l.byte-items)
