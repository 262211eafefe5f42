use mathlib.Core.Path.{sym, subst}
use lib.Dec.{T}
use lib.Ieee.{binary64, fits}
use Rattle.arithmetic.proofs.Fields.{subnormal, normal, no_nan}
use Rattle.arithmetic.proofs.sqrt.decoded.Goals as goal
use Rattle.arithmetic.proofs.sqrt.decoded.Goals.{Start}

held : (c : Start) → T (fits binary64 c.args.x)
held c = subst T (sym c.well_formed.0.1) tt

pub float_to_bits-b : goal.float_to_bits-b
float_to_bits-b c = no_nan c.args.x c.requires

pub returns-then-biased-eq0 : goal.returns-then-biased-eq0
returns-then-biased-eq0 c = subnormal c.args.x (held c.before) c.requires c.if-biased-eq0.true

pub returns : goal.returns
returns c = normal c.args.x (held c.before) c.requires c.if-biased-eq0.false
