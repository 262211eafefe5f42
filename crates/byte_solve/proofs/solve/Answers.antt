use native.Mathlib.Omega.{arith}
use lib.ListN.{length}
use Rattle.matrix.proofs.CheckLaws.{passed}
use Rattle.byte_solve.proofs.SolveBytes.{sized}
use Rattle.byte_solve.proofs.solve.Goals as goal

pub slice_bounds-p2-end : goal.slice_bounds-p2-end
slice_bounds-p2-end c =
    let a = c.args in
    (sized a.n (length a.l.now) (length a.y.now) (length a.p.now) (length a.b.now) (passed c.length_byte_checks.ensures c.in_ok-length_byte_checks.was)).small

pub solve_read-requires : goal.solve_read-requires
solve_read-requires c = record { b_value = (passed c.length_byte_checks.ensures c.in_ok-length_byte_checks.was).is; p2_len = omega arith }
