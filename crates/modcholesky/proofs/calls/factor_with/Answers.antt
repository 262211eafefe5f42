use mathlib.Core.Path.{sym, ap, ◌∙◌}
use Rattle.arithmetic.specs.Outcome.{complete}
use Rattle.matrix.proofs.CheckLaws.{passed}
use Rattle.methods.proofs.Answers.{refuses, answers}
use Rattle.methods.proofs.CallLaws.{factor-accepted}
use Rattle.modcholesky.proofs.calls.factor_with.Goals as goal

pub run-requires : goal.run-requires
run-requires c = factor-accepted c.args.method _ _ c.args.numbering _ _ _ _ c.type_inv.a (passed c.factor_checks-checks.ensures c.in-Ok.is)

pub returns-in-Ok : goal.returns-in-Ok
returns-in-Ok c =
    let a = c.args in
    answers a.numbering a.numbers.now a.method a.n a.a.now a.l.now a.work.now a.e.now a.p.now _ (ap complete (sym c.factor_checks-checks.ensures ∙ c.in-Ok.is)) (rw c.of.ensures at c.run.ensures)

pub returns-in-Err : goal.returns-in-Err
returns-in-Err c =
    let a = c.args in
    let e = sym c.factor_checks-checks.ensures ∙ c.in-Err.is in
    rw (c.untouched.ensures, ← e) (refuses a.numbering a.numbers.now a.method a.n a.a.now a.l.now a.work.now a.e.now a.p.now (ap complete e))
