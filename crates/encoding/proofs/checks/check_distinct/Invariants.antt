use mathlib.Core.Path.{◌≡◌}
use Prim.Native.Nat.{◌-◌, ◌≤◌}
use Rattle.arithmetic.specs.First.{first_from}
use Rattle.matrix.specs.Checks.{came_before, first_repeated}
use Rattle.encoding.specs.Bytes.{numbers}
use Rattle.encoding.proofs.checks.check_distinct.Given as goal

abbrev pub invariant-loop-k : goal.invariant-loop-k
invariant-loop-k l = (l.k ≤ l.count) × (first_repeated (numbers l.b) ≡ first_from (came_before (numbers l.b)) l.k (l.count - l.k))

abbrev pub decreases-loop-k : goal.decreases-loop-k
decreases-loop-k l = l.count - l.k
