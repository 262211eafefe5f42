use borrow.Author.Rules.{rules}
use Rattle.arithmetic.proofs.Counting.{counting_turn, loops}
use Rattle.matrix.specs.Swap.{swap_in_columns, swap_columns}
use Rattle.matrix.proofs.utils.swap_columns_unchecked.Goals as goal

pub loop-i-preserved : goal.loop-i-preserved
unfolding swap_in_columns
loop-i-preserved c = (counting_turn c.loop-i.invariant.0 (search rules) (rw (c.swap.ensures, c.cell-in-loop-i.ensures.0, c.cell.ensures.0)), search rules)

pub returns : goal.returns
unfolding swap_columns
returns c = search loops

pub loop-i-init : goal.loop-i-init
loop-i-init c = search loops
