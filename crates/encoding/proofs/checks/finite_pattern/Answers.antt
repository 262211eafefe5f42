use mathlib.Core.Path.{sym}
use Rattle.encoding.proofs.Numbers.{bits-finite}
use Rattle.encoding.proofs.checks.finite_pattern.Goals as goal

pub returns : goal.returns
returns c = sym (bits-finite _)
