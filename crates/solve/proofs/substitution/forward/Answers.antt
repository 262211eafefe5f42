use Rattle.std.proofs.lemmas.Result.{err_from_is_err_and}
use native.Mathlib.Omega.{arith}
use borrow.Author.Rules.{rules}
use Rattle.arithmetic.proofs.Counting.{counting_start, counting_turn, counting_end}
use Rattle.solve.specs.Substitution.{forward}
use Rattle.solve.proofs.SolveLaws.{forward_left}
use Rattle.solve.proofs.substitution.forward.Goals as goal

pub loop-t-init : goal.loop-t-init
loop-t-init c = rw (c.clear.ensures, c.requires.z_len) (counting_start (search rules), search rules)

pub returns-in_err-forward_row : goal.returns-in_err-forward_row
returns-in_err-forward_row c =
    let p = err_from_is_err_and c.from_residual.result c.from_residual.ensures.1 in
    rw (p.1, p.2) (forward_left c.args.n c.args.l.now c.args.p.now c.args.b.now c.loop-t.invariant.0 c.loop-t-test.true (rw c.in_err-forward_row.was at c.forward_row.ensures))

pub loop-t-preserved : goal.loop-t-preserved
loop-t-preserved c =
    (counting_turn c.loop-t.invariant.0 c.loop-t-test.true (rw c.in_ok-forward_row.was at c.forward_row.ensures), omega arith)

pub returns : goal.returns
unfolding forward
returns c = counting_end c.loop-t.invariant.0 c.loop-t-test.false
