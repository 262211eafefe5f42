use borrow.Author.Rules.{rules}
use borrow.Author.Tests.{eq-eqb, ne_eqb}
use mathlib.Core.Path.{◌≡◌, ap, ◌∙◌}
use mathlib.Core.Bool.{Bool}
use mathlib.Core.List.{List}
use Prim.Native.Nat.{ℕ, ◌+◌, ◌-◌, ◌<◌}
use native.Mathlib.Omega.{arith}
use Rattle.std.proofs.lemmas.Grind.{common_steps}
use lib.ListN.{length, take, drop, length-drop}
use lib.Seq.{take_all}
use lib.Ieee.{Float}
use Rattle.matrix.specs.Search.{largest}
use Rattle.matrix.specs.declared.utils.Found.{Found}
use Rattle.matrix.proofs.SearchLaws.{largest-top}
use Rattle.methods.specs.Statements.{number_at, smallest_number, pick}
use Rattle.statements.proofs.pick.Goals as goal

rest : (j : ℕ) (x : List Float) → take (length x - j) (drop j x) ≡ drop j x
rest j x = take_all (length x - j) (drop j x) (omega (arith, length-drop j x))

module _ (numbers p : List ℕ) (magnitude : Bool) (values : List Float) (j : ℕ) (f : Found) (found : f ≡ largest magnitude (take (length values - j) (drop j values))) where
  is_largest : f ≡ largest magnitude (drop j values)
  is_largest = found ∙ ap (largest magnitude) (rest j values)

  first : length numbers ≡ 0 → f ≡ pick numbers p magnitude values j
  unfolding pick
  first z = rw (eq-eqb (length numbers) 0 z, is_largest)

  smallest : (length numbers ≡ 0 → ⊥) → (index : ℕ)
      → index ≡ smallest_number (λ i. number_at numbers p (j + i)) magnitude (take (length values - j) (drop j values)) f.index
      → record { index = index; tied = f.tied } ≡ pick numbers p magnitude values j
  unfolding pick
  smallest z index e = rw (ne_eqb (length numbers) 0 z, e, rest j values, is_largest)

  candidate : j < length values → f.index < length (take (length values - j) (drop j values))
  candidate h = rw (rest j values, is_largest) (largest-top magnitude (drop j values) (omega (arith, length-drop j values))).below

pub returns-then-is_empty : goal.returns-then-is_empty
returns-then-is_empty c = let a = c.args in first a.numbers.now a.p.now a.magnitude a.values.now a.j _ c.largest-found.ensures (grind (arith, common_steps))

pub returns : goal.returns
returns c =
    let a = c.args in
    smallest a.numbers.now a.p.now a.magnitude a.values.now a.j _ c.largest-found.ensures (grind (arith, common_steps)) _ c.smallest_number.ensures

pub smallest_number-requires : goal.smallest_number-requires
smallest_number-requires c =
    let a = c.args in
    (candidate a.numbers.now a.p.now a.magnitude a.values.now a.j _ c.largest-found.ensures (search rules), search rules)
