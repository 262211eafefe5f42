use Rattle.arithmetic.proofs.Counting.{Counting}
use Rattle.methods.specs.Gmw81.{fold_row}
use Rattle.gmw81_steps.proofs.off_diagonal_max.Given as goal

abbrev pub invariant-loop-i : goal.invariant-loop-i
invariant-loop-i l = Counting 0 l.n l.i (fold_row l.n l.l) l.initial.acc l.acc
