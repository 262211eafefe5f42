use Rattle.matrix.proofs.Filled.{fillings}
use Rattle.statements.proofs.count_up.Goals as goal

pub returns : goal.returns
returns c = search fillings
