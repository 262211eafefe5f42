use mathlib.Core.Path.{sym, ap, ◌∙◌}
use Rattle.arithmetic.specs.Outcome.{complete}
use Rattle.matrix.proofs.CheckLaws.{passed}
use Rattle.record.specs.Record.{refused}
use Rattle.record.proofs.Whole.{lent-operands, request-refused, request-ran}
use Rattle.record.proofs.answer.factor_request.Goals as goal

pub returns-in-Err : goal.returns-in-Err
returns-in-Err c =
    let e = sym c.check_symmetric.ensures ∙ c.in-Err.is in
    request-refused _ _ _ _ _ _ _ _ (ap complete e) (c.untouched.ensures ∙ ap (λ o. (refused o).decomposition) (sym e))

pub run-requires : goal.run-requires
run-requires c =
    let a = c.args in
    lent-operands a.r a.numbers.now a.a.now a.l.now a.work.now a.e.now a.p.now c.requires c.type_inv.a (passed c.check_symmetric.ensures c.in-Ok.is)

pub returns-in-Ok : goal.returns-in-Ok
returns-in-Ok c =
    request-ran _ _ _ _ _ _ _ _ _ (passed c.check_symmetric.ensures c.in-Ok.is) c.of.ensures c.run.ensures
