use native.Mathlib.Omega.{arith}
use lib.Ieee.{nan}
use lib.Ieee.Scale.{finite}
use Rattle.std.proofs.lemmas.Grind.{common_steps}
use Rattle.arithmetic.proofs.Chains.{fold_all}
use Rattle.matrix.proofs.checks.list_finite.Goals as goal

pub returns : goal.returns
returns c =
    let a = c.args in
    grind (arith, common_steps, fold_all finite a.l.now nan a.a c.requires)
