use mathlib.Core.Path.{◌≡◌}
use Rattle.arithmetic.specs.Loop.{range}
use Rattle.circles.specs.Circles.{add_magnitudes}
use Rattle.circles.proofs.gershgorin.magnitude_sums.Given as goal

abbrev pub invariant-loop-j : goal.invariant-loop-j
invariant-loop-j l = l.s ≡ range 0 l.j (add_magnitudes l.n l.mat l.i) l.initial.s
