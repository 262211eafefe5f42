use borrow.Author.Rules.{rules}
use Rattle.arithmetic.proofs.Counting.{counting_turn, loops}
use Rattle.record.specs.Cursor.{walk}
use Rattle.record.proofs.cursor.walk.Goals as goal

pub loop-field-preserved : goal.loop-field-preserved
loop-field-preserved c = counting_turn c.loop-field.invariant (search rules) c.pass_field-c.ensures

pub returns : goal.returns
unfolding walk
returns c = search loops

pub loop-field-init : goal.loop-field-init
loop-field-init c = search loops
