use mathlib.Core.Path.{sym, subst}
use lib.Dec.{T}
use Rattle.arithmetic.proofs.Operand.{abs-below, abs-other}
use Rattle.arithmetic.proofs.double.abs.Goals as goal

pub returns-then-y : goal.returns-then-y
returns-then-y c = let s = c.before.before in abs-below s.args.x _ (subst T (sym s.well_formed.0.1) tt) c.unsigned_zero-y.ensures c.if-y.true

pub returns-else-y : goal.returns-else-y
returns-else-y c = let s = c.before.before in abs-other s.args.x _ (subst T (sym s.well_formed.0.1) tt) c.unsigned_zero-y.ensures c.if-y.false
