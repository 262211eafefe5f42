use mathlib.Core.Path.{refl}
use native.Mathlib.Omega.{arith}
use lib.Ieee.{nan}
use Rattle.matrix.proofs.Filled.{filling_turn, filling_list}
use Rattle.encoding.proofs.Doubles.{doubles-length, pattern_is, pattern_no_nan}
use Rattle.encoding.proofs.read.read_doubles.Goals as goal

pub float_from_bits-x : goal.float_from_bits-x
float_from_bits-x c = pattern_no_nan c.args.b.now c.loop-k.k _ (omega arith) c.read_number.ensures (c.requires.by_index _ (omega arith))

pub loop-k-preserved : goal.loop-k-preserved
loop-k-preserved c = filling_turn c.loop-k.invariant (omega arith) (omega arith) (pattern_is _ _ _ (omega arith) c.read_number.ensures)

pub returns : goal.returns
returns c = filling_list nan _ _ _ _ (omega arith) refl _ c.loop-k.invariant (omega (arith, doubles-length c.args.b.now))
