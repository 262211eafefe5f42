use mathlib.Core.Path.{sym, ◌∙◌}
use Rattle.record.proofs.Walk.{step_stays, step-stops, step_is}
use Rattle.record.proofs.cursor.pass_field.Goals as goal

pub returns-then-nothing_due : goal.returns-then-nothing_due
returns-then-nothing_due c = sym (step_stays _ _ _ (sym c.nothing_due.ensures ∙ c.if-nothing_due.true))

pub returns-then-cut : goal.returns-then-cut
returns-then-cut c = sym (step-stops _ _ _ (sym c.nothing_due.ensures ∙ c.if-nothing_due.false) (sym c.cut.ensures ∙ c.if-cut.true))

pub returns : goal.returns
returns c = step_is _ _ _ (sym c.nothing_due.ensures ∙ c.if-nothing_due.false) (sym c.cut.ensures ∙ c.if-cut.false) _ _ _ _ c.byte_at-tag.ensures.0 c.part_at-part.ensures c.after.ensures c.noted.ensures
