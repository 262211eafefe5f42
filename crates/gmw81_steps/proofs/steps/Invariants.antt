use Rattle.arithmetic.proofs.Counting.{Counting}
use Rattle.methods.specs.Gmw81.{state, step}
use Rattle.gmw81_steps.proofs.steps.Given as goal

abbrev pub invariant-loop-j : goal.invariant-loop-j
invariant-loop-j l = Counting 0 l.n l.j (step l.numbers l.n l.limits.delta l.limits.beta) (state l.initial.l l.initial.c l.initial.d l.initial.e l.initial.p l.initial.r) (state l.l l.c l.d l.e l.p l.r)
