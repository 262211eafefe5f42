use Rattle.arithmetic.proofs.Counting.{Counting}
use Rattle.methods.specs.Gmw81.{fold_off_diagonal}
use Rattle.gmw81_steps.proofs.fold_row.Given as goal

abbrev pub invariant-loop-k : goal.invariant-loop-k
invariant-loop-k l = Counting 0 l.n l.k (fold_off_diagonal l.n l.l l.i) l.initial.acc l.acc
