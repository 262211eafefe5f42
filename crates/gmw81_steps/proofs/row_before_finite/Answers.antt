use borrow.Author.Rules.{rules}
use Rattle.arithmetic.proofs.Counting.{counting_turn, loops}
use Rattle.gmw81_steps.proofs.row_before_finite.Goals as goal

pub loop-s-preserved : goal.loop-s-preserved
loop-s-preserved c = counting_turn c.loop-s.invariant (search rules) (rw (c.finite-ok.ensures, c.get.ensures))

pub loop-s-init : goal.loop-s-init
loop-s-init c = search loops

pub returns : goal.returns
returns c = search loops
