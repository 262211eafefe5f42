use borrow.Author.Rules.{rules}
use Rattle.arithmetic.proofs.Counting.{counting_start, counting_turn, loops}
use Rattle.gmw81_steps.proofs.column_finite.Goals as goal

pub loop-i-preserved : goal.loop-i-preserved
loop-i-preserved c = counting_turn c.loop-i.invariant (search rules) (rw (c.finite-ok.ensures, c.get.ensures))

pub loop-i-init : goal.loop-i-init
loop-i-init c = counting_start (search rules)

pub returns : goal.returns
returns c = search loops
