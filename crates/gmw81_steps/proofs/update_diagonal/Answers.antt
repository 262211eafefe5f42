use borrow.Author.Rules.{rules}
use Rattle.arithmetic.proofs.Counting.{counting_start, counting_turn, loops}
use Rattle.methods.proofs.GmwLaws.{diagonal-is}
use Rattle.gmw81_steps.proofs.update_diagonal.Goals as goal

pub loop-i-preserved : goal.loop-i-preserved
loop-i-preserved c = counting_turn c.loop-i.invariant (search rules) (rw (c.put.ensures, c.square.ensures, c.get-in-loop-i.ensures, c.get.ensures))

pub loop-i-init : goal.loop-i-init
loop-i-init c = counting_start (search rules)

pub returns : goal.returns
returns c = search (loops, diagonal-is)
