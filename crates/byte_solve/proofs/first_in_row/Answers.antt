use borrow.Author.Rules.{rules}
use borrow.Author.Tests.{tests}
use mathlib.Core.Path.{◌≡◌, refl, ◌∙◌}
use mathlib.Core.Bool.{Bool, not}
use Prim.Native.Nat.{ℕ, ◌+◌}
use native.Mathlib.Nat.{sub-zero}
use lib.Ieee.Scale.{finite}
use Rattle.std.proofs.lemmas.Iterator.{YieldsList-from_range}
use Rattle.std.proofs.lemmas.Iterator.Search.{position_from_yields_List}
use Rattle.std.specs.List.{range_with_len, position}
use Rattle.matrix.specs.Matrix.{at}
use Rattle.encoding.specs.Bytes.{doubles}
use Rattle.matrix.proofs.Searches.{range-search}
use Rattle.byte_solve.proofs.first_in_row.Goals as goal

pub returns : goal.returns
returns c =
    let a = c.args in
    let end = a.i + 1 in
    let bad : ℕ → Bool = λ j. not (finite (at a.n (doubles a.l.now) a.i j)) in
    let found : c.position.result ≡ position bad (range_with_len 0 end) =
    position_from_yields_List bad _ _ _ c.position.ensures.ran (YieldsList-from_range 0 end end refl (sub-zero end)) (λ x t q h. search (rules, tests)) in
    c.unwrap_or.ensures ∙ range-search bad bad end found (λ j h. refl)
