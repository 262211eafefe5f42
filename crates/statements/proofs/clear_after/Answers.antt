use Rattle.arithmetic.proofs.Counting.{counting_start, counting_turn, loops}
use borrow.Author.Rules.{rules}
use Rattle.methods.specs.Statements.{clear_after}
use Rattle.statements.proofs.clear_after.Goals as goal

pub loop-k-init : goal.loop-k-init
loop-k-init c = counting_start (search rules)

pub loop-k-preserved : goal.loop-k-preserved
loop-k-preserved c = counting_turn c.loop-k.invariant (search rules) c.put.ensures

pub returns : goal.returns
unfolding clear_after
returns c = search loops
