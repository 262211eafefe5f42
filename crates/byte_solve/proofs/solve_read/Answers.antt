use mathlib.Core.Bool.{not}
use mathlib.Core.Path.{ap}
use mathlib.Core.Path.{◌≡◌, ◌∙◌}
use native.Mathlib.Omega.{arith}
use lib.ListN.{length}
use Rattle.matrix.proofs.CheckLaws.{Accepted, passed}
use Rattle.byte_solve.specs.Solve.{length_byte_checks, pattern_checks}
use Rattle.byte_solve.proofs.SolveBytes.{sized}
use Rattle.byte_solve.proofs.solve_read.Goals as goal

pub read_order-requires : goal.read_order-requires
read_order-requires c =
    let a = c.args in let L : Accepted (length_byte_checks a.n (length a.l.now) (length a.y.now) (length a.p.now) (length a.b.now)) = record { is = c.requires.b_value } in
    (sized a.n (length a.l.now) (length a.y.now) (length a.p.now) (length a.b.now) L).p_is ∙ omega (arith, c.requires.p2_len)

pub pattern_checks-requires : goal.pattern_checks-requires
pattern_checks-requires c =
    let a = c.args in let L : Accepted (length_byte_checks a.n (length a.l.now) (length a.y.now) (length a.p.now) (length a.b.now)) = record { is = c.requires.b_value } in
    let S = sized a.n (length a.l.now) (length a.y.now) (length a.p.now) (length a.b.now) L in
    (S.l_is, S.small)

pub solve_patterns-requires : goal.solve_patterns-requires
solve_patterns-requires c =
    let a = c.args in
    let t : c.pattern_checks.result ≡ pattern_checks a.n a.l.now a.p.now a.b.now = rw (← c.read_order.ensures) c.pattern_checks.ensures in
    let e = c.read_order.ensures in
    record { b_value = rw e c.requires.b_value; b_value_2 = rw e (passed t c.in_ok-pattern_checks.was).is }

pub returns : goal.returns
returns c = rw c.read_order.ensures at c.solve_patterns.ensures
