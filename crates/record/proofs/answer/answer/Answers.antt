use mathlib.Core.Path.{◌≡◌, refl, sym, ap, ◌∙◌}
use lib.ListN.{length}
use Rattle.arithmetic.specs.Outcome.{complete}
use Rattle.matrix.proofs.CheckLaws.{passed, both_accepted}
use Rattle.answer_record.specs.AnswerRecord.{longest_answer}
use Rattle.record.specs.MatrixRecord.{byte_checks}
use Rattle.record.specs.Record.{refused}
use Rattle.record.proofs.Whole.{checks-made, contracts-own, bytes-fits, bytes-answers, request-answers, call_returns, call-writes}
use Rattle.record.proofs.answer.answer.Goals as goal

pub returns-then-room-ne-LONGEST_ANSWER : goal.returns-then-room-ne-LONGEST_ANSWER
returns-then-room-ne-LONGEST_ANSWER c =
    let made : c.byte_checks-outcome.result ≡ byte_checks c.args.b.now (length c.args.out.now) = checks-made _ _ _ _ _ c.walk-c.ensures c.read_request-r.ensures c.optional_content-contracts.ensures c.content-entries.ensures _ _ _ _ refl refl c.byte_checks-outcome.ensures in
    let h = call_returns _ _ _ made c.if-room-ne-LONGEST_ANSWER.true in record { out_after = h.0; counts = h.1 }

pub write_refusal-requires : goal.write_refusal-requires
write_refusal-requires c =
    let made : c.byte_checks-outcome.result ≡ byte_checks c.args.b.now (length c.args.out.now) = checks-made _ _ _ _ _ c.walk-c.ensures c.read_request-r.ensures c.optional_content-contracts.ensures c.content-entries.ensures _ _ _ _ refl refl c.byte_checks-outcome.ensures in
    let e = c.if-room-ne-LONGEST_ANSWER.false in
    let t = sym (made ∙ ap (byte_checks _) e) ∙ c.in-Err.is in
    let A = bytes-fits _ (ap complete t) _ (c.untouched.ensures ∙ ap (λ o. (refused o).decomposition) (sym t)) in
    record { out_len = (e, A.0); marks_fit = A.1 }

pub returns-in-Err : goal.returns-in-Err
returns-in-Err c =
    let made : c.byte_checks-outcome.result ≡ byte_checks c.args.b.now (length c.args.out.now) = checks-made _ _ _ _ _ c.walk-c.ensures c.read_request-r.ensures c.optional_content-contracts.ensures c.content-entries.ensures _ _ _ _ refl refl c.byte_checks-outcome.ensures in
    let e = c.if-room-ne-LONGEST_ANSWER.false in
    let t = sym (made ∙ ap (byte_checks _) e) ∙ c.in-Err.is in
    let writes = call-writes _ _ _ _ e (bytes-answers _ (ap complete t) _ (sym t) _ c.untouched.ensures _ _ _ c.write_refusal.ensures) in
    record { out_after = writes.0; counts = writes.1 }

pub answer_request-requires : goal.answer_request-requires
answer_request-requires c =
    let A = passed c.byte_checks-outcome.ensures c.in-Ok.is in
    record { entries_value = (both_accepted _ _ A).1.is; own_contracts = contracts-own _ _ _ _ _ c.walk-c.ensures c.read_request-r.ensures c.optional_content-contracts.ensures c.content-entries.ensures }

pub returns-in-Ok : goal.returns-in-Ok
returns-in-Ok c =
    let made : c.byte_checks-outcome.result ≡ byte_checks c.args.b.now (length c.args.out.now) = checks-made _ _ _ _ _ c.walk-c.ensures c.read_request-r.ensures c.optional_content-contracts.ensures c.content-entries.ensures _ _ _ _ refl refl c.byte_checks-outcome.ensures in
    let e = c.if-room-ne-LONGEST_ANSWER.false in
    let h = ap complete (sym (made ∙ ap (byte_checks _) e) ∙ c.in-Ok.is) in
    let writes = call-writes _ _ _ _ e (request-answers _ _ _ _ _ c.walk-c.ensures c.read_request-r.ensures c.optional_content-contracts.ensures c.content-entries.ensures h _ _ _ c.answer_request.ensures) in
    record { out_after = writes.0; counts = writes.1 }
