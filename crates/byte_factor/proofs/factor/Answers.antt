use mathlib.Core.Path.{sym, ap, ◌∙◌}
use Rattle.arithmetic.specs.Outcome.{complete}
use Rattle.matrix.proofs.CheckLaws.{passed}
use Rattle.byte_factor.proofs.FactorBytes.{call-refused}
use Rattle.byte_factor.proofs.factor.Goals as goal

pub factor_unchecked-requires : goal.factor_unchecked-requires
factor_unchecked-requires c = (passed c.entry_byte_checks-checks.ensures c.in-Ok.is).is

pub returns-in-Err : goal.returns-in-Err
returns-in-Err c =
    let e = sym c.entry_byte_checks-checks.ensures ∙ c.in-Err.is in
    call-refused _ _ _ _ _ _ _ _ _ _ (sym e) (ap complete e) _ c.untouched.ensures
