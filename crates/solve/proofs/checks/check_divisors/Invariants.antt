use mathlib.Core.Bool.{Bool}
use mathlib.Core.List.{List}
use mathlib.Core.Path.{◌≡◌}
use Prim.Native.Nat.{ℕ, ◌-◌, ◌≤◌}
use lib.Ieee.{Float, eq}
use Rattle.arithmetic.specs.Double.{plus_zero}
use Rattle.arithmetic.specs.First.{first_from}
use Rattle.matrix.specs.Matrix.{at}
use Rattle.solve.specs.Checks.{first_zero}
use Rattle.solve.proofs.checks.check_divisors.Given as goal

abbrev pub zero_at : ℕ → List Float → ℕ → Bool
zero_at n l i = eq (at n l i i) plus_zero

abbrev pub invariant-loop-i : goal.invariant-loop-i
invariant-loop-i l = (l.i ≤ l.n) × (first_zero l.n l.l ≡ first_from (zero_at l.n l.l) l.i (l.n - l.i))

abbrev pub decreases-loop-i : goal.decreases-loop-i
decreases-loop-i l = l.n - l.i
