use mathlib.Core.Path.{sym, subst, ◌∙◌}
use lib.Dec.{T}
use lib.Ieee.{of_bits, div}
use Rattle.arithmetic.proofs.Operand.{negative_value}
use Rattle.arithmetic.proofs.Stages.{negative_root, other_root, finite_below}
use Rattle.arithmetic.proofs.Inexact.{unrounded, negative_not_positive, other_not_positive}
use Rattle.arithmetic.proofs.sqrt.sqrt_flagged.Goals as goal

pub returns-then-x : goal.returns-then-x
unfolding of_bits div
returns-then-x c =
    let n = negative_value c.args.x c.if-x.true in
    c.of.ensures ∙ unrounded _ _ (negative_root n) (negative_not_positive n)

pub returns-then-not-x : goal.returns-then-not-x
unfolding of_bits div
returns-then-not-x c =
    let x = c.args.x in
    let n = c.if-x.false in
    let h = c.if-not-x.true in
    c.of-then-not-x.ensures ∙ unrounded x _ (other_root x n h) (other_not_positive x n h)

pub root-requires : goal.root-requires
unfolding of_bits div
root-requires c =
    let a = c.before.before in
    record { double = subst T (sym a.well_formed.0.1) tt; number = finite_below a.args.x c.if-x.false c.if-not-x.false; sign = c.if-x.false }
