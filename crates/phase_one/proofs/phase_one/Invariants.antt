use mathlib.Core.Path.{◌≡◌}
use mathlib.Core.List.{List}
use lib.Ieee.{Float}
use Rattle.arithmetic.specs.Loop.{range}
use Rattle.methods.specs.Elimination.{mirrored}
use Rattle.methods.specs.Se.{state, in_phase_one}
use Rattle.phase_one.proofs.phase_one.Given as goal

abbrev pub invariant-loop-j : goal.invariant-loop-j
invariant-loop-j l =
    (e g : List Float) → state (mirrored l.n l.l) e g l.p l.q ≡ range 0 l.j (in_phase_one l.params.variant l.params.tolerances l.params.numbers.now l.params.gamma l.n) (state (mirrored l.n l.initial.l) e g l.initial.p l.initial.q)
