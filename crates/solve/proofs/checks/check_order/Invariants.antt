use mathlib.Core.Path.{◌≡◌}
use Prim.Native.Nat.{◌-◌, ◌≤◌}
use lib.ListN.{length}
use Rattle.arithmetic.specs.First.{first, first_from}
use Rattle.solve.specs.Checks.{wrong_index}
use Rattle.solve.proofs.checks.check_order.Given as goal

abbrev pub invariant-loop-k : goal.invariant-loop-k
invariant-loop-k l = (l.k ≤ length l.p) × (first (wrong_index l.n l.p) (length l.p) ≡ first_from (wrong_index l.n l.p) l.k (length l.p - l.k))
