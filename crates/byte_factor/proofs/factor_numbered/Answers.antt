use mathlib.Core.Path.{sym, ap, ◌∙◌}
use lib.ListN.{length}
use Rattle.arithmetic.specs.Outcome.{complete}
use Rattle.matrix.proofs.CheckLaws.{Accepted, passed as checked}
use Rattle.encoding.specs.Checks.{number_byte_checks}
use Rattle.byte_factor.specs.Factor.{entry_byte_checks}
use Rattle.byte_factor.proofs.FactorBytes.{sized, same-checks, call-refused}
use Rattle.byte_factor.proofs.factor_numbered.Goals as goal

pub slice_bounds-read-end : goal.slice_bounds-read-end
slice_bounds-read-end c =
    let passed : let a = c.args in Accepted (entry_byte_checks a.method a.n a.a.now (number_byte_checks a.n a.numbers.now) (length a.l.now) (length a.work.now) (length a.e.now) (length a.p.now)) = checked (c.entry_byte_checks-checks.ensures ∙ same-checks _ _ _ _ _ _ _ _ _ c.number_checks.ensures) c.in-Ok.is in
    (sized _ _ _ _ _ _ _ _ (passed)).square.small

pub returns-in-Err : goal.returns-in-Err
returns-in-Err c =
    let t = c.entry_byte_checks-checks.ensures ∙ same-checks _ _ _ _ _ _ _ _ _ c.number_checks.ensures in
    let e = sym t ∙ c.in-Err.is in
    call-refused _ _ _ _ _ _ _ _ _ _ (sym e) (ap complete e) _ c.untouched.ensures
