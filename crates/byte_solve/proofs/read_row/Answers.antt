use mathlib.Core.Path.{ap, ◌∙◌}
use native.Mathlib.Omega.{arith}
use lib.Ieee.Scale.{finite}
use Rattle.encoding.proofs.Numbers.{bits-no_nan}
use Rattle.byte_solve.proofs.read_row.Goals as goal

pub float_from_bits-pattern : goal.float_from_bits-pattern
float_from_bits-pattern c =
    bits-no_nan _ (ap finite c.pattern.ensures ∙ c.requires.by_index _ (omega (arith, c.loop-j-test.true)))
