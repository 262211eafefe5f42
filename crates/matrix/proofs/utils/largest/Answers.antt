use mathlib.Core.Path.{◌≡◌}
use mathlib.Core.Bool.{Bool}
use mathlib.Core.List.{List}
use Prim.Native.Nat.{ℕ}
use lib.Dec.{ltb}
use lib.Ieee.{Float}
use Rattle.matrix.specs.Search.{best_of, count_equal, largest}
use Rattle.matrix.specs.declared.utils.Best.{Best}
use Rattle.matrix.proofs.utils.largest.Goals as goal

found : (magnitude : Bool) (c : List Float) (b : Best) (count : ℕ) → b ≡ best_of magnitude c → count ≡ count_equal magnitude c b.max → record { index = b.index; tied = ltb 1 count } ≡ largest magnitude c
unfolding largest
found magnitude c b count e k = rw (k, e)

pub returns : goal.returns
returns c =
    let a = c.args in
    found a.magnitude a.c.now _ _ c.best_of-b.ensures c.count_equal-count.ensures
