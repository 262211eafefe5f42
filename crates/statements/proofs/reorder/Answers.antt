use mathlib.Core.Path.{◌≡◌, refl}
use mathlib.Core.List.{List}
use Prim.Native.Nat.{ℕ}
use borrow.Author.Rules.{rules}
use lib.ListN.{get_or, set}
use lib.Ieee.{Float, nan}
use Rattle.arithmetic.specs.Loop.{range}
use Rattle.arithmetic.proofs.Counting.{counting_turn, counting_end, loops}
use Rattle.methods.specs.Statements.{reorder}
use Rattle.statements.proofs.reorder.Goals as goal

pub loop-i-init : goal.loop-i-init
loop-i-init c = search loops

pub loop-i-preserved : goal.loop-i-preserved
loop-i-preserved c = counting_turn c.loop-i.invariant (search rules) refl

reorder-is : (n k : ℕ) (p : List ℕ) (ec e r : List Float) → k ≡ n → ec ≡ e → r ≡ range 0 k (λ i s. set s (get_or p i 0) (get_or ec i nan)) e → r ≡ reorder n p e
unfolding reorder
reorder-is n k p ec e r h q g = rw (h, q) at g

pub returns : goal.returns
returns c = reorder-is _ _ _ _ _ _ c.requires.p_len.0 c.copy.ensures (counting_end c.loop-i.invariant (search rules))
