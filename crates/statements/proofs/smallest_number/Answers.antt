use mathlib.Core.Path.{◌≡◌}
use mathlib.Core.Bool.{Bool, cond, ◌&&◌}
use mathlib.Core.List.{List}
use Prim.Native.Nat.{ℕ, ◌+◌, ◌<◌, zero-le}
use borrow.Author.Rules.{rules}
use lib.Dec.{ltb}
use lib.ListN.{length, get_or}
use lib.Ieee.{Float, nan, eq}
use Rattle.matrix.specs.Search.{key}
use Rattle.arithmetic.specs.Loop.{range}
use Rattle.arithmetic.proofs.LoopLaws.{loop_start, loop_turn, loop_end}
use Rattle.methods.specs.Statements.{number_at, tied_with, look_number, smallest_number}
use Rattle.methods.proofs.Pivots.{look-below}
use Rattle.statements.proofs.smallest_number.Goals as goal

pub loop-i-init : goal.loop-i-init
loop-i-init c = (search rules, loop_start _ _ _)

-- one candidate, each value named
module _ (numbers p : List ℕ) (j : ℕ) (magnitude : Bool) (c : List Float) (first i best : ℕ) where
  abbrev tied : ℕ → Bool
  tied = tied_with magnitude c first

  abbrev number : ℕ → ℕ
  number k = number_at numbers p (j + k)

  looked : (x y : Float) (r : ℕ) → r ≡ cond (eq x y && ltb (number i) (number best)) i best → x ≡ key magnitude (get_or c first nan) → y ≡ key magnitude (get_or c i nan) → r ≡ look_number tied number i best
  looked x y r e ex ey = rw (e, ex, ey)

  looked_below : (n r : ℕ) → i < n → best < n → r ≡ look_number tied number i best → r < n
  looked_below n r h b e = rw e (look-below n tied number i best h b)

pub loop-i-preserved : goal.loop-i-preserved
loop-i-preserved c =
    let l = c.loop-i in
    let a = c.args in
    let e = looked a.numbers.now a.p.now a.j a.magnitude a.c.now a.first l.i l.best _ _ _ c.look_number-best.ensures
    c.key-largest.ensures c.key.ensures in
    (looked_below a.numbers.now a.p.now a.j a.magnitude a.c.now a.first l.i l.best _ _ (search rules) l.invariant.0 e, loop_turn 0 _ _ _ _ _ zero-le l.invariant.1 e)

smallest : (number : ℕ → ℕ) (magnitude : Bool) (c : List Float) (first best : ℕ) → best ≡ range 0 (length c) (look_number (tied_with magnitude c first) number) first → best ≡ smallest_number number magnitude c first
unfolding smallest_number
smallest number magnitude c first best e = e

pub returns : goal.returns
returns c = smallest _ _ _ _ _ (loop_end 0 _ _ _ _ _ (search rules) (search rules) c.loop-i.invariant.1)
