use mathlib.Core.Path.{ap, ◌∙◌}
use native.Mathlib.Omega.{arith}
use lib.ListN.{length}
use Rattle.matrix.specs.Matrix.{zeros}
use Rattle.matrix.proofs.CheckLaws.{Accepted, finite_accepted}
use Rattle.encoding.specs.Bytes.{doubles}
use Rattle.byte_helpers.specs.Helpers.{circle_byte_checks}
use Rattle.byte_helpers.proofs.CircleBytes.{circle_accepted, circles-written, circles-answered}
use Rattle.byte_helpers.proofs.gershgorin.write_circles.Goals as goal

pub read_doubles-requires : goal.read_doubles-requires
read_doubles-requires c =
    let p : Accepted (circle_byte_checks c.args.n c.args.mat.now (length c.args.centres.now) (length c.args.radii.now)) = record { is = c.requires.radii_value } in
    let O = circle_accepted c.args.n c.args.mat.now (length c.args.centres.now) (length c.args.radii.now) p in record { b_len = omega (arith, O.mat-is, c.requires.a_len.0); by_index = λ k q. finite_accepted c.args.n (doubles c.args.mat.now) O.finite_entries k (omega (arith, O.square.len, c.requires.a_len.0)) }

pub gershgorin_circles_unchecked-outcome-requires : goal.gershgorin_circles_unchecked-outcome-requires
gershgorin_circles_unchecked-outcome-requires c =
    let p : Accepted (circle_byte_checks c.args.n c.args.mat.now (length c.args.centres.now) (length c.args.radii.now)) = record { is = c.requires.radii_value } in record { square = rw c.read_doubles.ensures (circle_accepted c.args.n c.args.mat.now (length c.args.centres.now) (length c.args.radii.now) p).square; centres_len = (omega arith, omega arith) }

pub write_doubles-requires : goal.write_doubles-requires
write_doubles-requires c =
    let p : Accepted (circle_byte_checks c.args.n c.args.mat.now (length c.args.centres.now) (length c.args.radii.now)) = record { is = c.requires.radii_value } in
    let W = (circles-written c.args.n c.args.mat.now c.args.centres.now c.args.radii.now p _ _ _ _ _ _ c.read_doubles.ensures (c.clear.ensures ∙ ap zeros c.requires.a_len.1) (c.clear-2.ensures ∙ ap zeros c.requires.a_len.2) c.gershgorin_circles_unchecked-outcome.ensures).0 in record { x_in_bounds = omega (arith, W.0.len, (circle_accepted c.args.n c.args.mat.now (length c.args.centres.now) (length c.args.radii.now) p).centres-are); each_finite = W.1 }

pub write_doubles-requires-2 : goal.write_doubles-requires-2
write_doubles-requires-2 c =
    let p : Accepted (circle_byte_checks c.args.n c.args.mat.now (length c.args.centres.now) (length c.args.radii.now)) = record { is = c.requires.radii_value } in
    let W = (circles-written c.args.n c.args.mat.now c.args.centres.now c.args.radii.now p _ _ _ _ _ _ c.read_doubles.ensures (c.clear.ensures ∙ ap zeros c.requires.a_len.1) (c.clear-2.ensures ∙ ap zeros c.requires.a_len.2) c.gershgorin_circles_unchecked-outcome.ensures).1 in record { x_in_bounds = omega (arith, W.0.len, (circle_accepted c.args.n c.args.mat.now (length c.args.centres.now) (length c.args.radii.now) p).radii-are); each_finite = W.1 }

pub returns : goal.returns
returns c =
    let p : Accepted (circle_byte_checks c.args.n c.args.mat.now (length c.args.centres.now) (length c.args.radii.now)) = record { is = c.requires.radii_value } in
    circles-answered _ _ _ _ p _ _ _ _ _ _ c.read_doubles.ensures (c.clear.ensures ∙ ap zeros c.requires.a_len.1) (c.clear-2.ensures ∙ ap zeros c.requires.a_len.2) c.gershgorin_circles_unchecked-outcome.ensures _ _ c.write_doubles.ensures.0 c.write_doubles-2.ensures.0
