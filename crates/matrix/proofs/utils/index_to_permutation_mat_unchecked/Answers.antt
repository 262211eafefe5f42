use mathlib.Core.List.{List}
use mathlib.Core.Path.{◌≡◌, refl}
use Prim.Native.Nat.{ℕ, ◌*◌, zero-le}
use borrow.Author.Rules.{rules}
use lib.Ieee.{Float}
use lib.ListN.{length}
use Rattle.arithmetic.specs.Loop.{range}
use Rattle.arithmetic.proofs.LoopLaws.{loop_start, loop_turn, loop_end}
use Rattle.matrix.specs.Matrix.{zeros}
use Rattle.matrix.specs.Plain.{put_one, index_to_permutation_mat}
use Rattle.matrix.proofs.utils.index_to_permutation_mat_unchecked.Goals as goal

pub loop-i-init : goal.loop-i-init
loop-i-init c = (refl, loop_start _ _ _)

pub loop-i-preserved : goal.loop-i-preserved
unfolding put_one
loop-i-preserved c = (search rules, loop_turn 0 _ _ _ _ _ zero-le c.loop-i.invariant.1 c.put.ensures)

from-zeros : (idxs : List ℕ) (cleared mat : List Float) (k : ℕ) → k ≡ length idxs * length idxs → cleared ≡ zeros k → mat ≡ range 0 (length idxs) (put_one idxs) cleared → mat ≡ index_to_permutation_mat idxs
unfolding index_to_permutation_mat
from-zeros idxs cleared mat k l z h = rw (z, l) at h

pub returns : goal.returns
returns c =
    let s = c.before.before.before.before.before.before.before.before in
    from-zeros s.args.idxs.now _ _ _ s.requires.square.len c.clear.ensures
    (loop_end 0 _ _ _ _ _ (search rules) (search rules) c.loop-i.invariant.1)
