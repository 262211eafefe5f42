use mathlib.Core.Bool.{true}
use mathlib.Core.List.{List}
use mathlib.Core.Path.{◌≡◌, refl}
use Rattle.std.proofs.lemmas.Result.{err_from_is_err_and}
use Prim.Native.Nat.{ℕ}
use lib.ListN.{length}
use Rattle.arithmetic.specs.Outcome.{complete}
use Rattle.byte_solve.specs.Solve.{length_byte_checks, pattern_checks}
use mathlib.Core.Bool.{not}
use mathlib.Core.Path.{ap}
use native.Mathlib.Omega.{arith}
use Rattle.matrix.proofs.CheckLaws.{passed}
use Rattle.byte_solve.proofs.SolveBytes.{Passed, sizes, readable, refused-divisors, solvable, writable, answered}
use Rattle.byte_solve.proofs.solve_entries.Goals as goal

passing : (n : ℕ) (l p b y : List ℕ) → complete (length_byte_checks n (length l) (length y) (length p) (length b)) ≡ true → complete (pattern_checks n l p b) ≡ true
    → Passed n l p b y
passing n l p b y h k = record { lengths_pass = record { is = h }; patterns_pass = record { is = k } }

pub read_lower-requires : goal.read_lower-requires
read_lower-requires c =
    let a = c.args in let P = passing a.n a.l.now a.p.now a.b.now a.y.now c.requires.b_value c.requires.b_value_2 in record { l_len = (sizes P).l_is; square = record { len = c.requires.l2_len.0; small = (sizes P).small }; by_index = (readable P).lower }

pub read_doubles-requires : goal.read_doubles-requires
read_doubles-requires c =
    let a = c.args in let P = passing a.n a.l.now a.p.now a.b.now a.y.now c.requires.b_value c.requires.b_value_2 in
    let h = (sizes P).b_is in record { b_len = omega (arith, h, c.requires.l2_len.1); by_index = λ k q. (readable P).right k (omega (arith, h, c.requires.l2_len.1)) }

pub check_divisors-requires : goal.check_divisors-requires
check_divisors-requires c =
    let a = c.args in let P = passing a.n a.l.now a.p.now a.b.now a.y.now c.requires.b_value c.requires.b_value_2 in
    (solvable P c.read_lower.ensures c.read_doubles.ensures).square

pub returns-in_err-check_divisors : goal.returns-in_err-check_divisors
returns-in_err-check_divisors c =
    let a = c.args in let P = passing a.n a.l.now a.p.now a.b.now a.y.now c.requires.b_value c.requires.b_value_2 in
    let p = err_from_is_err_and c.from_residual.result c.from_residual.ensures.1 in
    let d = c.check_divisors.ensures in
    refused-divisors P c.read_lower.ensures c.read_doubles.ensures _ (rw (p.1, p.2, ← c.in_err-check_divisors.was) d) (rw (← d, c.in_err-check_divisors.was) refl)

pub solve_unchecked-outcome-requires : goal.solve_unchecked-outcome-requires
solve_unchecked-outcome-requires c =
    let a = c.args in let P = passing a.n a.l.now a.p.now a.b.now a.y.now c.requires.b_value c.requires.b_value_2 in record { solvable = solvable P c.read_lower.ensures c.read_doubles.ensures; values_len = (c.requires.l2_len.2, c.requires.l2_len.3) }

pub write_doubles-requires : goal.write_doubles-requires
write_doubles-requires c =
    let a = c.args in let P = passing a.n a.l.now a.p.now a.b.now a.y.now c.requires.b_value c.requires.b_value_2 in
    let W = writable P c.read_lower.ensures c.read_doubles.ensures c.solve_unchecked-outcome.ensures in record { x_in_bounds = omega (arith, W.0, (sizes P).y_is); each_finite = W.1 }

pub returns : goal.returns
returns c =
    let D = passed c.check_divisors.ensures c.in_ok-check_divisors.was in
    let a = c.args in let P = passing a.n a.l.now a.p.now a.b.now a.y.now c.requires.b_value c.requires.b_value_2 in
    answered P c.read_lower.ensures c.read_doubles.ensures c.solve_unchecked-outcome.ensures D _ c.write_doubles.ensures.0
