use borrow.Author.Rules.{rules}
use lib.Ieee.{nan}
use mathlib.Core.Path.{refl}
use native.Mathlib.Omega.{arith}
use Rattle.matrix.proofs.Filled.{filling_list}
use Rattle.statements.proofs.copy.Goals as goal

pub returns : goal.returns
returns c = filling_list nan _ _ _ _ (omega arith) refl _ c.loop-i.invariant (search rules)
