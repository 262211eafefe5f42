use mathlib.Core.Path.{◌≡◌}
use Prim.Native.Nat.{◌+◌, ◌-◌}
use Rattle.arithmetic.specs.First.{first_from}
use Rattle.matrix.proofs.CheckLaws.{mismatch}
use Rattle.matrix.proofs.checks.first_mismatch.Given as goal

abbrev pub invariant-loop-j : goal.invariant-loop-j
invariant-loop-j l = first_from (mismatch l.n l.m l.i) (l.i + 1) (l.n - (l.i + 1)) ≡ first_from (mismatch l.n l.m l.i) l.j (l.n - l.j)
