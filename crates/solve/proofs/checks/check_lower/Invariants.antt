use mathlib.Core.Bool.{Bool}
use mathlib.Core.List.{List}
use mathlib.Core.Path.{◌≡◌}
use Prim.Native.Nat.{ℕ, ◌-◌, ◌≤◌}
use lib.Dec.{leb}
use lib.Ieee.{Float}
use Rattle.arithmetic.specs.First.{first_from}
use Rattle.solve.specs.Checks.{first_in_row, first_row}
use Rattle.solve.proofs.checks.check_lower.Given as goal

abbrev pub not_finite_row : ℕ → List Float → ℕ → Bool
not_finite_row n l i = leb (first_in_row n l i) i

abbrev pub invariant-loop-i : goal.invariant-loop-i
invariant-loop-i l = (l.i ≤ l.n) × (first_row l.n l.l ≡ first_from (not_finite_row l.n l.l) l.i (l.n - l.i))

abbrev pub decreases-loop-i : goal.decreases-loop-i
decreases-loop-i l = l.n - l.i
