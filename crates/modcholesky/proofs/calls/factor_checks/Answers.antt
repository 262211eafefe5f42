use borrow.Author.Rules.{rules}
use Rattle.matrix.specs.Matrix.{Square}
use Rattle.matrix.proofs.CheckLaws.{passed, entries-accepted}
use Rattle.modcholesky.proofs.calls.factor_checks.Goals as goal

pub check_symmetric-requires-clause-all_finite : goal.check_symmetric-requires-clause-all_finite
check_symmetric-requires-clause-all_finite c =
    let square : Square c.args.n c.args.a.now = search rules in
    entries-accepted _ _ square (passed c.check_finite.ensures c.in_ok-check_finite.was)
