use Rattle.arithmetic.proofs.Counting.{counting_turn, loops}
use borrow.Author.Rules.{rules}
use Rattle.gmw81_steps.proofs.steps.Goals as goal

pub loop-j-init : goal.loop-j-init
loop-j-init c = search loops

pub loop-j-preserved : goal.loop-j-preserved
loop-j-preserved c = counting_turn c.loop-j.invariant (search rules) c.step-r.ensures
