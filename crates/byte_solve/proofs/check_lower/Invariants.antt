use mathlib.Core.Path.{◌≡◌}
use mathlib.Core.Bool.{Bool}
use mathlib.Core.List.{List}
use Prim.Native.Nat.{ℕ, ◌-◌, ◌≤◌}
use lib.Dec.{leb}
use Rattle.arithmetic.specs.First.{first_from}
use Rattle.encoding.specs.Bytes.{doubles}
use Rattle.solve.specs.Checks.{first_in_row, first_row}
use Rattle.byte_solve.proofs.check_lower.Given as goal

abbrev pub bad : ℕ → List ℕ → ℕ → Bool
bad n l i = leb (first_in_row n (doubles l) i) i

abbrev pub invariant-loop-i : goal.invariant-loop-i
invariant-loop-i l = (l.i ≤ l.n) × (first_row l.n (doubles l.l) ≡ first_from (bad l.n l.l) l.i (l.n - l.i))

abbrev pub decreases-loop-i : goal.decreases-loop-i
decreases-loop-i l = l.n - l.i
