use mathlib.Core.Path.{◌≡◌, sym, ap, ◌∙◌}
use Rattle.arithmetic.specs.Outcome.{complete}
use native.Mathlib.Omega.{arith}
use lib.ListN.{length}
use Rattle.std.specs.Prelude.{Ok}
use Rattle.matrix.specs.Checks.{check_symmetric}
use Rattle.matrix.proofs.CheckLaws.{Accepted, passed as checked, finite_accepted}
use Rattle.encoding.specs.Bytes.{doubles}
use Rattle.byte_factor.specs.Factor.{entry_byte_checks}
use Rattle.byte_factor.proofs.FactorBytes.{Sized, Writable, sized, all-finite, operands, call-unsymmetric, writable, call-answered}
use Rattle.byte_factor.proofs.factor_entries.Goals as goal

pub read_doubles-requires : goal.read_doubles-requires
read_doubles-requires c =
    let passed : Accepted (entry_byte_checks c.args.method c.args.n c.args.a.now (Ok tt) (length c.args.l.now) (length c.args.work.now) (length c.args.e.now) (length c.args.p.now)) = record { is = c.requires.p_value } in
    let given : Sized c.args.n c.args.a.now (length c.args.l.now) (length c.args.work.now) (length c.args.e.now) (length c.args.p.now) = sized _ _ _ _ _ _ _ _ passed in
    let S = given in record { b_len = omega (arith, S.a_is, c.requires.a2_len.0); by_index = λ k q. finite_accepted c.args.n (doubles c.args.a.now) S.finite_entries k (omega (arith, S.square.len, c.requires.a2_len.0)) }

pub check_symmetric-requires : goal.check_symmetric-requires
check_symmetric-requires c =
    let passed : Accepted (entry_byte_checks c.args.method c.args.n c.args.a.now (Ok tt) (length c.args.l.now) (length c.args.work.now) (length c.args.e.now) (length c.args.p.now)) = record { is = c.requires.p_value } in
    let given : Sized c.args.n c.args.a.now (length c.args.l.now) (length c.args.work.now) (length c.args.e.now) (length c.args.p.now) = sized _ _ _ _ _ _ _ _ passed in
    let S = given in record { square = rw c.read_doubles.ensures S.square; all_finite = rw c.read_doubles.ensures (all-finite _ _ _ _ _ _ S) }

pub returns-in-Err : goal.returns-in-Err
returns-in-Err c =
    let passed : Accepted (entry_byte_checks c.args.method c.args.n c.args.a.now (Ok tt) (length c.args.l.now) (length c.args.work.now) (length c.args.e.now) (length c.args.p.now)) = record { is = c.requires.p_value } in
    let symmetric : c.check_symmetric.result ≡ check_symmetric c.args.n (doubles c.args.a.now) = c.check_symmetric.ensures ∙ ap (check_symmetric _) c.read_doubles.ensures in
    let e = sym symmetric ∙ c.in-Err.is in
    call-unsymmetric _ _ _ _ _ _ _ _ passed _ (sym e) (ap complete e) _ c.untouched.ensures

pub run-d-requires : goal.run-d-requires
run-d-requires c =
    let passed : Accepted (entry_byte_checks c.args.method c.args.n c.args.a.now (Ok tt) (length c.args.l.now) (length c.args.work.now) (length c.args.e.now) (length c.args.p.now)) = record { is = c.requires.p_value } in
    let given : Sized c.args.n c.args.a.now (length c.args.l.now) (length c.args.work.now) (length c.args.e.now) (length c.args.p.now) = sized _ _ _ _ _ _ _ _ passed in
    let symmetric : c.check_symmetric.result ≡ check_symmetric c.args.n (doubles c.args.a.now) = c.check_symmetric.ensures ∙ ap (check_symmetric _) c.read_doubles.ensures in
    let q = c.requires.a2_len in
    rw c.read_doubles.ensures (operands _ _ _ _ _ _ given (checked symmetric c.in_default.is) _ _ _ _ q.1 q.2 q.3 q.4)

pub write_doubles-requires : goal.write_doubles-requires
write_doubles-requires c =
    let passed : Accepted (entry_byte_checks c.args.method c.args.n c.args.a.now (Ok tt) (length c.args.l.now) (length c.args.work.now) (length c.args.e.now) (length c.args.p.now)) = record { is = c.requires.p_value } in
    let given : Sized c.args.n c.args.a.now (length c.args.l.now) (length c.args.work.now) (length c.args.e.now) (length c.args.p.now) = sized _ _ _ _ _ _ _ _ passed in
    let symmetric : c.check_symmetric.result ≡ check_symmetric c.args.n (doubles c.args.a.now) = c.check_symmetric.ensures ∙ ap (check_symmetric _) c.read_doubles.ensures in
    let ran : Writable c.args.n c.run-d.new.l c.run-d.new.e c.run-d.new.p = writable c.args.numbers.now c.args.method c.args.n c.args.a.now c.args.l.now c.args.work.now c.args.e.now c.args.p.now passed (checked symmetric c.in_default.is) _ c.of.ensures _ _ _ _ _ _ c.read_doubles.ensures c.run-d.ensures in
    record { x_in_bounds = omega (arith, ran.l_is, given.l_is); each_finite = ran.l_finite }

pub write_doubles-requires-2 : goal.write_doubles-requires-2
write_doubles-requires-2 c =
    let passed : Accepted (entry_byte_checks c.args.method c.args.n c.args.a.now (Ok tt) (length c.args.l.now) (length c.args.work.now) (length c.args.e.now) (length c.args.p.now)) = record { is = c.requires.p_value } in
    let given : Sized c.args.n c.args.a.now (length c.args.l.now) (length c.args.work.now) (length c.args.e.now) (length c.args.p.now) = sized _ _ _ _ _ _ _ _ passed in
    let symmetric : c.check_symmetric.result ≡ check_symmetric c.args.n (doubles c.args.a.now) = c.check_symmetric.ensures ∙ ap (check_symmetric _) c.read_doubles.ensures in
    let ran : Writable c.args.n c.run-d.new.l c.run-d.new.e c.run-d.new.p = writable c.args.numbers.now c.args.method c.args.n c.args.a.now c.args.l.now c.args.work.now c.args.e.now c.args.p.now passed (checked symmetric c.in_default.is) _ c.of.ensures _ _ _ _ _ _ c.read_doubles.ensures c.run-d.ensures in
    record { x_in_bounds = omega (arith, ran.e_is, given.e_is); each_finite = ran.e_finite }

pub write_order-requires : goal.write_order-requires
write_order-requires c =
    let passed : Accepted (entry_byte_checks c.args.method c.args.n c.args.a.now (Ok tt) (length c.args.l.now) (length c.args.work.now) (length c.args.e.now) (length c.args.p.now)) = record { is = c.requires.p_value } in
    let given : Sized c.args.n c.args.a.now (length c.args.l.now) (length c.args.work.now) (length c.args.e.now) (length c.args.p.now) = sized _ _ _ _ _ _ _ _ passed in
    let symmetric : c.check_symmetric.result ≡ check_symmetric c.args.n (doubles c.args.a.now) = c.check_symmetric.ensures ∙ ap (check_symmetric _) c.read_doubles.ensures in
    let ran : Writable c.args.n c.run-d.new.l c.run-d.new.e c.run-d.new.p = writable c.args.numbers.now c.args.method c.args.n c.args.a.now c.args.l.now c.args.work.now c.args.e.now c.args.p.now passed (checked symmetric c.in_default.is) _ c.of.ensures _ _ _ _ _ _ c.read_doubles.ensures c.run-d.ensures in
    record { p_in_bounds = omega (arith, ran.p_is, given.p_is); all_below = ran.p_small }

pub returns : goal.returns
returns c =
    let passed : Accepted (entry_byte_checks c.args.method c.args.n c.args.a.now (Ok tt) (length c.args.l.now) (length c.args.work.now) (length c.args.e.now) (length c.args.p.now)) = record { is = c.requires.p_value } in
    let symmetric : c.check_symmetric.result ≡ check_symmetric c.args.n (doubles c.args.a.now) = c.check_symmetric.ensures ∙ ap (check_symmetric _) c.read_doubles.ensures in
    call-answered _ _ _ _ _ _ _ _ passed (checked symmetric c.in_default.is) _ c.of.ensures _ _ _ _ _ _ c.read_doubles.ensures c.run-d.ensures _ _ _ _
    c.write_doubles.ensures.0 c.write_doubles-2.ensures.0 c.write_order.ensures.0 c.clear_bytes.ensures
