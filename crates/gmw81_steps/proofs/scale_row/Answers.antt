use borrow.Author.Rules.{rules}
use Rattle.arithmetic.proofs.Counting.{counting_turn, loops}
use Rattle.gmw81_steps.proofs.scale_row.Goals as goal

pub loop-k-preserved : goal.loop-k-preserved
loop-k-preserved c = counting_turn c.loop-k.invariant (search rules) (rw (c.put.ensures, c.get.ensures))

pub loop-k-init : goal.loop-k-init
loop-k-init c = search loops
