use borrow.Author.Rules.{rules}
use native.Mathlib.Omega.{arith}
use Rattle.arithmetic.proofs.OrderLaws.{finite_not_nan}
use Rattle.encoding.proofs.WriteLaws.{doubles-turn, doubles-end}
use Rattle.encoding.proofs.write.write_doubles.Goals as goal

pub float_to_bits-v : goal.float_to_bits-v
float_to_bits-v c = finite_not_nan _ (c.requires.each_finite c.loop-v.v-index (search rules))

pub loop-v-preserved : goal.loop-v-preserved
loop-v-preserved c = (search rules, search rules, doubles-turn _ _ _ c.args.x.now _ _ c.loop-v.v-index c.write_number-next.ensures c.loop-v.invariant.2 (search rules) (omega arith))

pub returns : goal.returns
returns c = (doubles-end _ _ c.args.x.now _ c.loop-v.v-index (omega arith) c.loop-v.invariant.2, omega arith)
