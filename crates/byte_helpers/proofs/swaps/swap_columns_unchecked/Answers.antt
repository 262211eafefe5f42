use borrow.Author.Rules.{rules}
use mathlib.Core.Path.{◌∙◌}
use Rattle.arithmetic.proofs.Counting.{counting_turn, counting_end, loops}
use Rattle.matrix.specs.Swap.{swap_in_columns}
use Rattle.byte_helpers.proofs.SwappedBytes.{columns_swapped}
use Rattle.byte_helpers.proofs.swaps.swap_columns_unchecked.Goals as goal

pub loop-i-preserved : goal.loop-i-preserved
unfolding swap_in_columns
loop-i-preserved c = (counting_turn c.loop-i.invariant.0 (search rules) (rw (c.swap_elements.ensures, c.cell-in-loop-i.ensures.0, c.cell.ensures.0)), search rules)

pub returns : goal.returns
returns c = counting_end c.loop-i.invariant.0 (search rules) ∙ columns_swapped _ _ _ _ c.requires.0 c.requires.2 c.requires.3

pub loop-i-init : goal.loop-i-init
loop-i-init c = search loops
