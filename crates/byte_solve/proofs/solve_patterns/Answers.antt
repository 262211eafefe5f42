use lib.ListN.{length}
use native.Mathlib.Omega.{arith}
use Rattle.matrix.proofs.CellLaws.{square-small}
use Rattle.byte_solve.proofs.SolveBytes.{sized}
use Rattle.byte_solve.proofs.solve_patterns.Goals as goal

pub overflow_mul-m : goal.overflow_mul-m
overflow_mul-m c = omega (arith, square-small c.args.n (sized c.args.n (length c.args.l.now) (length c.args.y.now) (length c.args.p.now) (length c.args.b.now) (record { is = c.requires.b_value })).small)

pub slice_bounds-l2-end : goal.slice_bounds-l2-end
slice_bounds-l2-end c = square-small c.args.n (sized c.args.n (length c.args.l.now) (length c.args.y.now) (length c.args.p.now) (length c.args.b.now) (record { is = c.requires.b_value })).small

pub slice_bounds-b2-end : goal.slice_bounds-b2-end
slice_bounds-b2-end c = (sized c.args.n (length c.args.l.now) (length c.args.y.now) (length c.args.p.now) (length c.args.b.now) (record { is = c.requires.b_value })).small

pub slice_bounds-values2-end : goal.slice_bounds-values2-end
slice_bounds-values2-end c = (sized c.args.n (length c.args.l.now) (length c.args.y.now) (length c.args.p.now) (length c.args.b.now) (record { is = c.requires.b_value })).small

pub slice_bounds-y2-end : goal.slice_bounds-y2-end
slice_bounds-y2-end c = (sized c.args.n (length c.args.l.now) (length c.args.y.now) (length c.args.p.now) (length c.args.b.now) (record { is = c.requires.b_value })).small
