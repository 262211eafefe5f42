use mathlib.Core.Path.{◌≡◌}
use Prim.Native.Nat.{◌+◌, ◌<◌}
use lib.ListN.{length}
use Rattle.arithmetic.specs.Loop.{range}
use Rattle.methods.specs.Statements.{number_at, tied_with, look_number}
use Rattle.statements.proofs.smallest_number.Given as goal

abbrev pub invariant-loop-i : goal.invariant-loop-i
invariant-loop-i l = (l.best < length l.c) × (l.best ≡ range 0 l.i (look_number (tied_with l.magnitude l.c l.first) (λ k. number_at l.numbers l.p (l.j + k))) l.first)
