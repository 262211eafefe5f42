use lib.ListN.{length, get_or}
use lib.Ieee.{nan}
use Rattle.matrix.proofs.Filled.{Filling}
use Rattle.statements.proofs.copy.Given as goal

abbrev pub invariant-loop-i : goal.invariant-loop-i
invariant-loop-i l = Filling nan (λ k. get_or l.from k nan) 0 (length l.initial.to) l.i l.initial.to l.to
