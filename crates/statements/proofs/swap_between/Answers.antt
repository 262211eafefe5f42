use Rattle.arithmetic.proofs.Counting.{counting_start, counting_turn, loops}
use borrow.Author.Rules.{rules}
use Rattle.methods.specs.Elimination.{swap_between}
use Rattle.statements.proofs.swap_between.Goals as goal

pub loop-k-init : goal.loop-k-init
loop-k-init c = counting_start (search rules)

pub loop-k-preserved : goal.loop-k-preserved
loop-k-preserved c = counting_turn c.loop-k.invariant (search rules) (rw (c.swap.ensures, c.cell-in-loop-k.ensures.0, c.cell.ensures.0))

pub returns : goal.returns
unfolding swap_between
returns c = search loops
