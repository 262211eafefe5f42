use native.Mathlib.Omega.{arith}
use Rattle.matrix.proofs.CellLaws.{square-small}
use Rattle.byte_helpers.proofs.CircleBytes.{circle_accepted}
use Rattle.byte_helpers.proofs.gershgorin.gershgorin_circles_unchecked.Goals as goal

pub overflow_mul-m : goal.overflow_mul-m
overflow_mul-m c = omega (arith, square-small c.args.n (circle_accepted _ _ _ _ (record { is = c.requires })).square.small)

pub slice_bounds-a-end : goal.slice_bounds-a-end
slice_bounds-a-end c = square-small c.args.n (circle_accepted _ _ _ _ (record { is = c.requires })).square.small

pub slice_bounds-c-end : goal.slice_bounds-c-end
slice_bounds-c-end c = (circle_accepted _ _ _ _ (record { is = c.requires })).square.small

pub slice_bounds-r-end : goal.slice_bounds-r-end
slice_bounds-r-end c = (circle_accepted _ _ _ _ (record { is = c.requires })).square.small
