use borrow.Author.Rules.{rules}
use mathlib.Core.Path.{refl}
use native.Mathlib.Omega.{arith}
use lib.ListN.{length-set}
use Rattle.encoding.proofs.WriteLaws.{order-turn, order-end}
use Rattle.encoding.proofs.write.write_order.Goals as goal

pub loop-k-preserved : goal.loop-k-preserved
loop-k-preserved c = (simp length-set c.loop-k.invariant.0, order-turn _ _ _ _ _ _ (search rules) (search rules) refl c.loop-k.invariant.1)

pub returns : goal.returns
returns c = (order-end _ _ _ _ _ (omega arith) c.loop-k.invariant.1, refl)
