use mathlib.Core.Path.{◌≡◌, ◌∙◌}
use native.Mathlib.Omega.{arith}
use lib.Ieee.{nan, eq}
use Rattle.std.specs.List.{count_by}
use Rattle.std.proofs.lemmas.Grind.{common_steps}
use Rattle.arithmetic.proofs.Chains.{count-range}
use Rattle.matrix.specs.Search.{key, tally, count_equal}
use Rattle.matrix.proofs.utils.count_equal.Goals as goal

pub returns : goal.returns
unfolding tally count_equal
returns c =
    let a = c.args in
    let e : c.loop-y.count ≡ count_by (λ y. eq a.x (key a.magnitude y)) a.c.now = grind (arith, common_steps) in
    e ∙ count-range (λ y. eq a.x (key a.magnitude y)) a.c.now nan
