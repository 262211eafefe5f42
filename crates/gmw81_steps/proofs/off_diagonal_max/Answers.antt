use borrow.Author.Rules.{rules}
use Rattle.arithmetic.proofs.Counting.{counting_turn, loops}
use Rattle.methods.proofs.GmwLaws.{off_diagonal_is}
use Rattle.gmw81_steps.proofs.off_diagonal_max.Goals as goal

pub loop-i-preserved : goal.loop-i-preserved
loop-i-preserved c = counting_turn c.loop-i.invariant (search rules) c.fold_row-acc.ensures

pub loop-i-init : goal.loop-i-init
loop-i-init c = search loops

pub returns : goal.returns
returns c = search (loops, off_diagonal_is)
