use mathlib.Core.List.{List}
use mathlib.Core.Path.{◌≡◌, refl}
use Prim.Native.Nat.{ℕ}
use borrow.Author.Rules.{rules}
use lib.Ieee.{Float, nan}
use lib.ListN.{get_or, set, length-set}
use Rattle.arithmetic.specs.Loop.{range}
use Rattle.arithmetic.proofs.Counting.{counting_start, counting_turn, counting_end}
use Rattle.matrix.specs.Matrix.{zeros}
use Rattle.solve.specs.Substitution.{put_back}
use Rattle.solve.proofs.substitution.put_back.Goals as goal

pub loop-t-init : goal.loop-t-init
loop-t-init c = (counting_start (search rules), refl)

pub loop-t-preserved : goal.loop-t-preserved
loop-t-preserved c = let l = c.loop-t in (counting_turn l.invariant.0 (search rules) refl, simp length-set l.invariant.1)

from-zeros : (n k : ℕ) (p : List ℕ) (w cleared y : List Float) → k ≡ n → cleared ≡ zeros k
    → y ≡ range 0 n (λ i v. set v (get_or p i 0) (get_or w i nan)) cleared → y ≡ put_back n p w
unfolding put_back
from-zeros n k p w cleared y l z h = rw (z, l) at h

pub returns : goal.returns
returns c =
    from-zeros _ _ _ _ _ _ c.requires.w_len.1 c.clear.ensures (counting_end c.loop-t.invariant.0 (search rules))
