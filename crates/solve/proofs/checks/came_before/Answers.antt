use mathlib.Core.Path.{◌≡◌, ◌∙◌}
use Prim.Native.Nat.{ℕ}
use native.Mathlib.Omega.{arith}
use lib.Dec.{eqb}
use lib.ListN.{get_or, take}
use Rattle.std.specs.List.{list_any}
use Rattle.std.proofs.lemmas.Grind.{common_steps}
use Rattle.arithmetic.proofs.Chains.{any_before}
use Rattle.solve.proofs.checks.came_before.Goals as goal

pub returns : goal.returns
returns c =
    let a = c.args in
    let p = a.p.now in
    let same = λ (x : ℕ). eqb x (get_or p a.k 0) in
    let e : c.loop-x.before ≡ list_any same (take a.k p) = grind (arith, common_steps) in
    e ∙ any_before same p 0 a.k (omega arith)
