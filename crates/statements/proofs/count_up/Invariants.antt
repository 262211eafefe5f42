use lib.ListN.{length}
use Rattle.matrix.proofs.Filled.{Filling}
use Rattle.statements.proofs.count_up.Given as goal

abbrev pub invariant-loop-i : goal.invariant-loop-i
invariant-loop-i l = Filling 0 (λ k. k) 0 (length l.initial.p) l.i l.initial.p l.p
