use Rattle.matrix.specs.Search.{key}
use Rattle.matrix.proofs.utils.key.Goals as goal

pub returns-then-magnitude : goal.returns-then-magnitude
unfolding key
returns-then-magnitude c = rw (c.abs.ensures, c.if-magnitude.true)

pub returns-else-magnitude : goal.returns-else-magnitude
unfolding key
returns-else-magnitude c = rw c.if-magnitude.false
