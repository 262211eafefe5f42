use native.Mathlib.Omega.{arith}
use mathlib.Core.Path.{ap, ◌∙◌}
use lib.Ieee.Scale.{finite}
use Rattle.encoding.proofs.Doubles.{doubles-length, pattern_is}
use Rattle.encoding.proofs.double_bytes.DoubleBytesDoubles.finite_at.Goals as goal

pub overflow_mul-k : goal.overflow_mul-k
overflow_mul-k c = omega (arith, doubles-length c.args.self.bytes.now, c.requires, c.ranges.self)

pub read_number-requires : goal.read_number-requires
read_number-requires c = omega (arith, doubles-length c.args.self.bytes.now, c.requires)

pub returns : goal.returns
returns c = c.finite_pattern.ensures ∙ ap finite (pattern_is c.args.self.bytes.now c.args.k _ (omega (arith, doubles-length c.args.self.bytes.now, c.requires)) c.read_number.ensures)
