use Rattle.arithmetic.proofs.Counting.{counting_turn, loops}
use borrow.Author.Rules.{rules}
use Rattle.methods.specs.Statements.{lower_triangle}
use Rattle.statements.proofs.lower_triangle.Goals as goal

pub loop-i-init : goal.loop-i-init
loop-i-init c = search loops

pub loop-i-preserved : goal.loop-i-preserved
loop-i-preserved c = counting_turn c.loop-i.invariant (search rules) c.clear_after.ensures

pub returns : goal.returns
unfolding lower_triangle
returns c = search loops
