use Rattle.arithmetic.proofs.Operand.{finite_difference}
use Rattle.arithmetic.proofs.double.finite.Goals as goal

pub returns : goal.returns
returns c = finite_difference c.args.x
