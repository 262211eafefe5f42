use borrow.Author.Rules.{rules}
use mathlib.Core.Path.{◌≡◌, sym, ◌∙◌}
use mathlib.Core.Bool.{Bool}
use mathlib.Core.List.{List}
use Prim.Native.Nat.{ℕ, ◌≤◌, ◌<◌}
use native.Mathlib.Omega.{arith}
use lib.ListN.{length, get_or}
use lib.Ieee.{Float, nan}
use Rattle.matrix.specs.Matrix.{at}
use Rattle.matrix.proofs.TableLaws.{get_or-table}
use Rattle.methods.specs.Statements.{diagonal, pick}
use Rattle.methods.proofs.Pivots.{length-diagonal, pick_same}
use Rattle.statements.proofs.search_diagonal.Goals as goal

copied : (numbers p : List ℕ) (magnitude : Bool) (n : ℕ) (m : List Float) (j : ℕ) (diag : List Float) → ((i : ℕ) → j ≤ i → i < n → get_or diag i nan ≡ at n m i i) → length diag ≡ n → pick numbers p magnitude diag j ≡ pick numbers p magnitude (diagonal n m) j
unfolding diagonal
copied numbers p magnitude n m j diag w e = pick_same numbers p magnitude diag (diagonal n m) j (e ∙ sym (length-diagonal n m)) (λ i u q. w i u (omega arith) ∙ sym (get_or-table n (λ k. at n m k k) i nan (omega arith)))

pub returns : goal.returns
returns c = c.pick.ensures ∙ copied _ _ _ _ _ _ _ c.copy_diagonal.ensures (search rules)
