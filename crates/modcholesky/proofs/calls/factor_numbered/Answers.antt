use mathlib.Core.Path.{◌∙◌}
use Rattle.methods.proofs.CallLaws.{call_same}
use Rattle.modcholesky.proofs.calls.factor_numbered.Goals as goal

pub returns : goal.returns
returns c =
    c.factor_with.ensures ∙ call_same _ _ _ _ _ _ _ _ _ _ c.number_checks-numbering.ensures
