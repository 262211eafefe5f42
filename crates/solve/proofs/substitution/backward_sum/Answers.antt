use borrow.Author.Rules.{rules}
use Rattle.arithmetic.proofs.Counting.{counting_start, counting_turn, loops}
use Rattle.solve.proofs.SolveLaws.{backward-sum_is}
use Rattle.solve.proofs.substitution.backward_sum.Goals as goal

pub loop-k-preserved : goal.loop-k-preserved
loop-k-preserved c = counting_turn c.loop-k.invariant (search rules) (rw c.get.ensures)

pub loop-k-init : goal.loop-k-init
loop-k-init c = counting_start (search rules)

pub returns : goal.returns
returns c = search (loops, backward-sum_is)
