use Rattle.arithmetic.proofs.Counting.{counting_turn, loops}
use borrow.Author.Rules.{rules}
use Rattle.methods.specs.Statements.{fold_diagonal, diagonal_max}
use Rattle.statements.proofs.diagonal_max.Goals as goal

pub loop-i-preserved : goal.loop-i-preserved
unfolding fold_diagonal
loop-i-preserved c = counting_turn c.loop-i.invariant (search rules) (rw (c.larger_magnitude-acc.ensures, c.get.ensures))

pub returns : goal.returns
unfolding diagonal_max
returns c = search loops

pub loop-i-init : goal.loop-i-init
loop-i-init c = search loops
