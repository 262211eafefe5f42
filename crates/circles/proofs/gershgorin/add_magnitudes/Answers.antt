use borrow.Author.Tests.{eq-eqb, ne_eqb}
use Rattle.circles.specs.Circles.{add_magnitudes}
use Rattle.circles.proofs.gershgorin.add_magnitudes.Goals as goal

pub returns-then-i-j : goal.returns-then-i-j
unfolding add_magnitudes
returns-then-i-j c = rw (eq-eqb _ _ c.if-i-j.true)

pub returns : goal.returns
unfolding add_magnitudes
returns c =
    let b = c.before.before.before.before in
    rw (ne_eqb _ _ b.if-i-j.false, b.abs.ensures, b.get.ensures, c.abs-2.ensures, c.get-2.ensures)
