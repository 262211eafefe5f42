use mathlib.Core.Path.{ap}
use native.Mathlib.Omega.{arith}
use lib.ListN.{length}
use Rattle.arithmetic.specs.Outcome.{complete}
use Rattle.matrix.proofs.CheckLaws.{Accepted, finite_accepted}
use Rattle.encoding.specs.Bytes.{doubles}
use Rattle.record.specs.MatrixRecord.{request_checks}
use Rattle.record.proofs.Accepted.{request-accepted, room_accepted}
use Rattle.record.proofs.Whole.{lends, complete-fits, refused-fits, complete-answers, refused-answers}
use Rattle.record.proofs.answer.answer_entries.Goals as goal

pub read_doubles-requires : goal.read_doubles-requires
read_doubles-requires c =
    let a = c.args in
    let A = request-accepted a.r (length a.out.now) a.contracts.now a.entries.now (record { is = c.requires.entries_value }) in
    record { b_len = omega (arith, A.0.bytes-are, c.requires.buffers.0); by_index = λ k q. finite_accepted a.r.size (doubles a.entries.now) A.1 k (omega (arith, A.0.square.len, c.requires.buffers.0)) }

pub factor_request-d-requires : goal.factor_request-d-requires
factor_request-d-requires c =
    let a = c.args in
    let passed : Accepted (request_checks a.r (length a.out.now) a.contracts.now a.entries.now) = record { is = c.requires.entries_value } in
    let q = c.requires.buffers in
    lends a.r _ _ _ _ _ _ _ _ passed c.read_doubles.ensures q.1 q.2 q.3 q.4

pub write_complete-len-requires : goal.write_complete-len-requires
write_complete-len-requires c =
    let a = c.args in
    let passed : Accepted (request_checks a.r (length a.out.now) a.contracts.now a.entries.now) = record { is = c.requires.entries_value } in
    let o = ap complete c.in-Ok.is in
    record { out_len = (room_accepted a.r (length a.out.now) a.contracts.now a.entries.now passed, o); fits = complete-fits a.r _ _ _ _ _ _ _ _ _ _ _ _ _ c.read_numbers.ensures c.read_doubles.ensures c.factor_request-d.ensures _ passed o }

pub returns-in-Ok : goal.returns-in-Ok
returns-in-Ok c =
    complete-answers _ _ _ _ _ _ _ _ _ _ _ _ _ _ c.read_numbers.ensures c.read_doubles.ensures c.factor_request-d.ensures _ _ _ (ap complete c.in-Ok.is) c.write_complete-len.ensures

pub write_refusal-len-requires : goal.write_refusal-len-requires
write_refusal-len-requires c =
    let a = c.args in
    let passed : Accepted (request_checks a.r (length a.out.now) a.contracts.now a.entries.now) = record { is = c.requires.entries_value } in
    let o = ap complete c.in-Err.is in
    record { out_len = (room_accepted a.r (length a.out.now) a.contracts.now a.entries.now passed, o); marks_fit = refused-fits a.r _ _ _ _ _ _ _ _ _ _ _ _ _ c.read_numbers.ensures c.read_doubles.ensures c.factor_request-d.ensures _ passed }

pub returns-in-Err : goal.returns-in-Err
returns-in-Err c =
    refused-answers _ _ _ _ _ _ _ _ _ _ _ _ _ _ c.read_numbers.ensures c.read_doubles.ensures c.factor_request-d.ensures _ _ _ (ap complete c.in-Err.is) c.write_refusal-len.ensures
