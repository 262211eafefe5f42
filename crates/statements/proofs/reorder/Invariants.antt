use lib.ListN.{length, get_or, set}
use lib.Ieee.{nan}
use Rattle.arithmetic.proofs.Counting.{Counting}
use Rattle.statements.proofs.reorder.Given as goal

abbrev pub invariant-loop-i : goal.invariant-loop-i
invariant-loop-i l = Counting 0 (length l.p) l.i (λ k s. set s (get_or l.p k 0) (get_or l.ec k nan)) l.initial.e l.e
