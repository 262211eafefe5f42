use mathlib.Core.Path.{ap, ◌∙◌}
use Prim.Native.Nat.{ℕ}
use native.Mathlib.Omega.{arith}
use lib.Dec.{eqb}
use lib.ListN.{get_or, take}
use Rattle.std.proofs.Common.{rules, tests}
use Rattle.std.specs.Option.{unwrap_or}
use Rattle.std.proofs.lemmas.Iterator.{YieldsList-from_slice}
use Rattle.std.proofs.lemmas.Iterator.Search.{position_from_yields_List}
use Rattle.arithmetic.proofs.Chains.{first_position_before}
use Rattle.matrix.proofs.checks.first_same.Goals as goal

pub returns : goal.returns
returns c =
    let a = c.args in
    let same = λ (x : ℕ). eqb x (get_or a.numbers.now a.k 0) in
    let e = position_from_yields_List same _ _ c.position.result c.position.ensures.ran (YieldsList-from_slice (take a.k a.numbers.now) cc) (λ x b q k. search (rules, tests)) in
    c.unwrap_or.ensures ∙ ap (λ (o : _). unwrap_or o a.k) e ∙ first_position_before same a.numbers.now 0 a.k (omega arith)
