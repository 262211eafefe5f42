use borrow.Author.Rules.{rules}
use mathlib.Core.List.{List}
use mathlib.Core.Path.{◌≡◌, refl, sym, ◌∙◌}
use Prim.Native.Nat.{ℕ, zero-le}
use lib.Ieee.{Float}
use Rattle.arithmetic.specs.Double.{plus_zero}
use Rattle.arithmetic.specs.Loop.{range}
use Rattle.arithmetic.proofs.LoopLaws.{loop_start, loop_turn, loop_end}
use Rattle.circles.specs.Circles.{add_magnitudes, sums}
use Rattle.circles.proofs.gershgorin.magnitude_sums.Goals as goal

pub loop-j-init : goal.loop-j-init
loop-j-init c = loop_start _ _ _

pub loop-j-preserved : goal.loop-j-preserved
loop-j-preserved c = loop_turn 0 _ _ _ _ _ zero-le c.loop-j.invariant c.add_magnitudes-s.ensures

sums-is : (n : ℕ) (mat : List Float) (i : ℕ) → sums n mat i ≡ range 0 n (add_magnitudes n mat i) (record { ri = plus_zero; ci = plus_zero })
unfolding sums
sums-is n mat i = refl

pub returns : goal.returns
returns c = loop_end 0 _ _ _ _ _ (search rules) (search rules) c.loop-j.invariant ∙ sym (sums-is _ _ _)
