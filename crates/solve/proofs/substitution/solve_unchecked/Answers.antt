use mathlib.Core.Path.{sym, ap, ◌∙◌}
use Rattle.matrix.specs.Matrix.{zeros}
use Rattle.solve.proofs.SolveLaws.{answer-refused, answer-complete}
use Rattle.solve.proofs.substitution.solve_unchecked.Goals as goal

pub returns-then-is_ok : goal.returns-then-is_ok
returns-then-is_ok c =
    let a = c.args in
    answer-complete a.n a.l.now a.p.now a.b.now c.substitute-outcome.ensures (sym c.is_ok.ensures.value ∙ c.if-is_ok.true) c.put_back.ensures

pub returns-else-is_ok : goal.returns-else-is_ok
returns-else-is_ok c =
    let a = c.args in
    answer-refused a.n a.l.now a.p.now a.b.now c.substitute-outcome.ensures (sym c.is_ok.ensures.value ∙ c.if-is_ok.false)
    (c.clear.ensures ∙ ap zeros c.requires.values_len.1)
