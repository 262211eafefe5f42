use native.Mathlib.Omega.{arith}
use Rattle.answer_record.specs.Writing.{result_with}
use Rattle.answer_record.proofs.WriteFields.{length-complete_fields, complete-written}
use Rattle.answer_record.proofs.write.write_complete.Goals as goal

pub returns : goal.returns
returns c =
    let a = c.args in
    let r = result_with a.d a.l.now a.e.now a.p.now in
    complete-written _ _ _ _ _ r c.write_marks-next.ensures _ _ c.write_byte_field-order.ensures c.write_factor.ensures c.requires.out_len.1 (omega (arith, length-complete_fields r))
