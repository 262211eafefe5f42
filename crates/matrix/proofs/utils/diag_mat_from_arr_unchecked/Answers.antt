use mathlib.Core.List.{List}
use mathlib.Core.Path.{◌≡◌, refl}
use Prim.Native.Nat.{ℕ, ◌*◌, zero-le}
use borrow.Author.Rules.{rules}
use lib.Ieee.{Float}
use lib.ListN.{length}
use Rattle.arithmetic.specs.Loop.{range}
use Rattle.arithmetic.proofs.LoopLaws.{loop_start, loop_turn, loop_end}
use Rattle.matrix.specs.Matrix.{zeros}
use Rattle.matrix.specs.Plain.{put_diagonal, diag_mat_from_arr}
use Rattle.matrix.proofs.utils.diag_mat_from_arr_unchecked.Goals as goal

pub loop-i-init : goal.loop-i-init
loop-i-init c = (refl, loop_start _ _ _)

pub loop-i-preserved : goal.loop-i-preserved
unfolding put_diagonal
loop-i-preserved c = (search rules, loop_turn 0 _ _ _ _ _ zero-le c.loop-i.invariant.1 c.put.ensures)

from-zeros : (arr cleared mat : List Float) (k : ℕ) → k ≡ length arr * length arr → cleared ≡ zeros k → mat ≡ range 0 (length arr) (put_diagonal arr) cleared → mat ≡ diag_mat_from_arr arr
unfolding diag_mat_from_arr
from-zeros arr cleared mat k l z h = rw (z, l) at h

pub returns : goal.returns
returns c =
    let s = c.before.before.before.before.before.before.before.before in
    from-zeros s.args.arr.now _ _ _ s.requires.len c.clear.ensures
    (loop_end 0 _ _ _ _ _ (search rules) (search rules) c.loop-i.invariant.1)
