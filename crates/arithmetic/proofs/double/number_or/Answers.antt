use mathlib.Core.Path.{sym, ◌∙◌}
use Rattle.arithmetic.proofs.Operand.{nan_test}
use Rattle.arithmetic.proofs.double.number_or.Goals as goal

pub returns-then-u : goal.returns-then-u
returns-then-u c = let e = sym (nan_test c.args.u) ∙ c.if-u.true in rw e

pub returns : goal.returns
returns c = let e = sym (nan_test c.args.u) ∙ c.if-u.false in rw e
