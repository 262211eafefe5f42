use mathlib.Core.Path.{◌≡◌, ap, ◌∙◌}
use Prim.Native.Nat.{ℕ, zero-le, ◌+◌, ◌≤◌}
use mathlib.Core.List.{List}
use native.Mathlib.Omega.{arith}
use borrow.Author.Rules.{rules}
use lib.Ieee.{Float}
use Rattle.arithmetic.specs.Loop.{range}
use Rattle.arithmetic.specs.Sqrt.{inexact}
use Rattle.arithmetic.specs.declared.sqrt.Rounded.{Rounded}
use Rattle.arithmetic.proofs.LoopLaws.{loop_start, loop_turn, loop_end}
use Rattle.matrix.proofs.Filled.{filling_turn, fillings}
use Rattle.methods.specs.Gmw81.{count_root, inexact_roots}
use Rattle.methods.specs.Progress.{one_if}
use Rattle.methods.proofs.Counts.{one-most, roots_most}
use Rattle.gmw81_steps.proofs.roots.Goals as goal

pub loop-x-init : goal.loop-x-init
loop-x-init c = (search fillings, loop_start 0 _ _)

pub overflow_add-inexact : goal.overflow_add-inexact
overflow_add-inexact c =
    let s = c.loop-x in
    omega (arith, c.one_if-inexact.ensures, one-most c.sqrt_flagged-root.result.inexact, s.invariant.1, roots_most c.args.d.now s.x-index, c.loop-x-test.true)

pub loop-x-preserved : goal.loop-x-preserved
loop-x-preserved c =
    let s = c.loop-x in
    let f = c.sqrt_flagged-root.ensures in
    let same = s.invariant.0.rest s.x-index (omega arith) in (
      filling_turn s.invariant.0 (search rules) (omega arith) (rw (ap (λ (u : Rounded). u.value) f, same)),
      loop_turn 0 _ _ _ _ _ zero-le s.invariant.1 (ap (λ (k : ℕ). s.inexact + k) (c.one_if-inexact.ensures ∙ ap one_if (ap (λ (u : Rounded). u.inexact) f ∙ ap inexact same))),
    )

all-counted : (d : List Float) (i n k : ℕ) → i ≤ n → n ≤ i → k ≡ range 0 i (count_root d) 0 → k ≡ inexact_roots n d
unfolding inexact_roots
all-counted d i n k h l e = loop_end 0 i n (count_root d) 0 k h l e

pub returns : goal.returns
returns c = let s = c.loop-x in record { d_after = search fillings; value = all-counted _ _ _ _ s.invariant.0.high (search rules) s.invariant.1 }
