use mathlib.Core.Path.{◌≡◌}
use Prim.Native.Nat.{◌-◌, ◌≤◌}
use Rattle.arithmetic.specs.First.{first, first_from}
use Rattle.matrix.specs.Checks.{came_before}
use Rattle.matrix.proofs.checks.check_distinct.Given as goal

abbrev pub invariant-loop-k : goal.invariant-loop-k
invariant-loop-k l = (l.k ≤ l.len) × (first (came_before l.numbers) l.len ≡ first_from (came_before l.numbers) l.k (l.len - l.k))

abbrev pub decreases-loop-k : goal.decreases-loop-k
decreases-loop-k l = l.len - l.k
