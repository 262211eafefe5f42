use Rattle.arithmetic.proofs.Counting.{Counting}
use Rattle.matrix.specs.Search.{look}
use Rattle.matrix.proofs.utils.best_of.Given as goal

abbrev pub invariant-loop-i : goal.invariant-loop-i
invariant-loop-i g l = Counting 0 l.n l.i (look l.magnitude (g.L.Doubles.doubles l.c)) l.initial.s l.s
