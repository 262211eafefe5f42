use mathlib.Core.Path.{◌≡◌, ◌∙◌}
use mathlib.Core.Bool.{Bool}
use lib.Ieee.{Float}
use Rattle.arithmetic.specs.Sqrt.{sqrt, inexact, flagged}
use Rattle.arithmetic.proofs.Inexact.{zero_not_positive, unrounded, cut_off}
use Rattle.arithmetic.proofs.Operand.{zero_value, rest-value}
use Rattle.arithmetic.proofs.Stages.{zero_root, positive_rest, joined, scale_small}
use Rattle.arithmetic.proofs.sqrt.root.Goals as goal

pub returns-then-x : goal.returns-then-x
returns-then-x c =
    let z = zero_value c.args.x c.if-x.true in
    c.of.ensures ∙ unrounded _ _ (zero_root z) (zero_not_positive z)

pub infinitely_precise_root-r-requires : goal.infinitely_precise_root-r-requires
infinitely_precise_root-r-requires c = positive_rest (rest-value c.args.x c.requires.sign c.if-x.false) c.requires.number

pub round_ties_to_even-requires : goal.round_ties_to_even-requires
round_ties_to_even-requires c =
    let a = c.before.before in
    let w = c.infinitely_precise_root-r in
    let R = w.ensures in
    (R.least, R.most, scale_small a.args.x a.requires.double (infinitely_precise_root-r-requires c.before) w.result.whole w.result.cut w.result.scale R)

joins : (x v : Float) (cut : Bool) → v ≡ sqrt x → cut ≡ inexact x → record { value = v; inexact = cut } ≡ flagged x
joins x v cut ev ec = rw (ev, ec)

pub returns : goal.returns
returns c =
    let w = c.infinitely_precise_root-r in
    let a = c.before.before.before.before in
    let p = infinitely_precise_root-r-requires c.before.before.before in
    c.of-2.ensures ∙ joins a.args.x _ _ (c.round_ties_to_even.ensures ∙ joined _ w.result.whole w.result.cut w.result.scale p w.ensures) (cut_off a.args.x w.result.whole w.result.cut w.result.scale a.requires.double p w.ensures).1
