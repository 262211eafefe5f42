use mathlib.Core.Path.{◌≡◌}
use mathlib.Core.Bool.{Bool}
use mathlib.Core.List.{List}
use Prim.Native.Nat.{ℕ}
use borrow.Author.Rules.{rules}
use lib.ListN.{length, get_or}
use lib.Ieee.{Float, nan}
use Rattle.arithmetic.specs.Loop.{range}
use Rattle.arithmetic.proofs.Counting.{counting_start, counting_turn, counting_end}
use Rattle.matrix.specs.Search.{key, look, best_of}
use Rattle.matrix.specs.declared.utils.Best.{Best}
use Rattle.matrix.proofs.utils.best_of.Goals as goal

pub loop-i-init : goal.loop-i-init
loop-i-init g c = counting_start (search rules)

pub loop-i-preserved : goal.loop-i-preserved
unfolding look
loop-i-preserved g c = counting_turn c.loop-i.invariant c.loop-i-test.true (rw (c.better-s.ensures, c.key-in-loop-i.ensures, c.get-in-loop-i.ensures))

from_first : (magnitude : Bool) (c : List Float) (n : ℕ) (x k : Float) (s : Best) → n ≡ length c → x ≡ get_or c 0 nan → k ≡ key magnitude x → s ≡ range 0 n (look magnitude c) (record { max = k; index = 0 }) → s ≡ best_of magnitude c
unfolding best_of
from_first magnitude c n x k s en ex ek h = rw (ek, ex, en) at h

pub returns : goal.returns
returns g c = from_first _ _ _ _ _ _ c.count-n.ensures c.get.ensures c.key.ensures (counting_end c.loop-i.invariant (search rules))
