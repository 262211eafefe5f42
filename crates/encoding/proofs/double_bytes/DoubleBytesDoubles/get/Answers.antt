use native.Mathlib.Omega.{arith}
use Rattle.encoding.proofs.Doubles.{doubles-length, pattern_is, pattern_no_nan}
use Rattle.encoding.proofs.double_bytes.DoubleBytesDoubles.get.Goals as goal

pub overflow_mul-k : goal.overflow_mul-k
overflow_mul-k c = omega (arith, doubles-length c.args.self.bytes.now, c.requires.within, c.ranges.self)

pub read_number-requires : goal.read_number-requires
read_number-requires c = omega (arith, doubles-length c.args.self.bytes.now, c.requires.within)

pub float_from_bits-result : goal.float_from_bits-result
float_from_bits-result c = pattern_no_nan c.args.self.bytes.now c.args.k _ (omega (arith, doubles-length c.args.self.bytes.now, c.requires.within)) c.read_number.ensures c.requires.allowed

pub returns : goal.returns
returns c = pattern_is c.args.self.bytes.now c.args.k _ (omega (arith, doubles-length c.args.self.bytes.now, c.requires.within)) c.read_number.ensures
