use borrow.Author.Rules.{rules}
use Rattle.arithmetic.proofs.Counting.{counting_turn, loops}
use Rattle.methods.proofs.GmwLaws.{row_is}
use Rattle.gmw81_steps.proofs.fold_row.Goals as goal

pub loop-k-preserved : goal.loop-k-preserved
loop-k-preserved c = counting_turn c.loop-k.invariant (search rules) c.fold_off_diagonal-acc.ensures

pub loop-k-init : goal.loop-k-init
loop-k-init c = search loops

pub returns : goal.returns
returns c = search (loops, row_is)
