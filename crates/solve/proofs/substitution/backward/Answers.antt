use mathlib.Core.Path.{refl}
use Rattle.std.proofs.lemmas.Result.{err_from_is_err_and}
use native.Mathlib.Omega.{arith}
use borrow.Author.Rules.{rules}
use Rattle.arithmetic.proofs.Counting.{counting_start, counting_turn, counting_end}
use Rattle.solve.specs.Substitution.{backward}
use Rattle.solve.proofs.SolveLaws.{backward_left}
use Rattle.solve.proofs.substitution.backward.Goals as goal

pub loop-i-init : goal.loop-i-init
loop-i-init c = (counting_start (search rules), refl)

pub returns-in_err-backward_row : goal.returns-in_err-backward_row
returns-in_err-backward_row c =
    let p = err_from_is_err_and c.from_residual.result c.from_residual.ensures.1 in
    rw (p.1, p.2) (backward_left c.args.n c.args.l.now c.loop-i.invariant.0 c.loop-i-test.true (rw c.in_err-backward_row.was at c.backward_row.ensures))

pub loop-i-preserved : goal.loop-i-preserved
loop-i-preserved c =
    (counting_turn c.loop-i.invariant.0 c.loop-i-test.true (rw c.in_ok-backward_row.was at c.backward_row.ensures), omega arith)

pub returns : goal.returns
unfolding backward
returns c = counting_end c.loop-i.invariant.0 c.loop-i-test.false
