use Rattle.arithmetic.proofs.Counting.{Counting}
use Rattle.methods.specs.Statements.{fold_diagonal}
use Rattle.statements.proofs.diagonal_max.Given as goal

abbrev pub invariant-loop-i : goal.invariant-loop-i
invariant-loop-i l = Counting 0 l.n l.i (fold_diagonal l.n l.m) l.initial.acc l.acc
