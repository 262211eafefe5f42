use borrow.Author.Rules.{rules}
use Rattle.arithmetic.proofs.Counting.{counting_turn, loops}
use Rattle.gmw81_steps.proofs.unit_diagonal.Goals as goal

pub loop-i-preserved : goal.loop-i-preserved
loop-i-preserved c = counting_turn c.loop-i.invariant (search rules) c.put.ensures

pub loop-i-init : goal.loop-i-init
loop-i-init c = search loops
