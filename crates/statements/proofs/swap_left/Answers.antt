use Rattle.arithmetic.proofs.Counting.{counting_turn, loops}
use borrow.Author.Rules.{rules}
use Rattle.methods.specs.Elimination.{swap_left}
use Rattle.statements.proofs.swap_left.Goals as goal

pub loop-k-init : goal.loop-k-init
loop-k-init c = search loops

pub loop-k-preserved : goal.loop-k-preserved
loop-k-preserved c = counting_turn c.loop-k.invariant (search rules) (rw (c.swap.ensures, c.cell-in-loop-k.ensures.0, c.cell.ensures.0))

pub returns : goal.returns
unfolding swap_left
returns c = search loops
