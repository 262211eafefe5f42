use native.Mathlib.Omega.{arith}
use Rattle.answer_record.proofs.WriteFields.{length-factor, factor-written}
use Rattle.answer_record.proofs.write.write_factor.Goals as goal

pub returns : goal.returns
returns c =
    let a = c.args in
    factor-written _ _ _ _ _ _ _ _ a.p.now a.e.now a.l.now c.write_order_field-amounts.ensures c.write_doubles_field-factor.ensures c.write_doubles_field.ensures (omega (arith, length-factor a.p.now a.e.now a.l.now))
