use borrow.Author.Rules.{rules}
use Rattle.arithmetic.proofs.Counting.{counting_turn, counting_end, loops}
use Rattle.methods.proofs.GmwLaws.{start_is}
use Rattle.gmw81_steps.proofs.start_diagonal.Goals as goal

pub loop-i-preserved : goal.loop-i-preserved
loop-i-preserved c = counting_turn c.loop-i.invariant (search rules) (rw (c.put.ensures, c.get.ensures))

pub returns : goal.returns
returns c = rw (start_is, ← c.requires.c_value) (counting_end c.loop-i.invariant (search rules))

pub loop-i-init : goal.loop-i-init
loop-i-init c = search loops
