use mathlib.Core.Path.{ap}
use native.Mathlib.Omega.{arith}
use Rattle.arithmetic.specs.Sqrt.{inexact}
use Rattle.matrix.specs.Matrix.{at}
use Rattle.methods.specs.Elimination.{mirrored}
use Rattle.methods.specs.declared.progress.Stores.{Stores}
use Rattle.methods.proofs.Counts.{one-most}
use Rattle.phase_one.proofs.factorize.Goals as goal

pub rooted-requires : goal.rooted-requires
rooted-requires c =
    let k = ap (λ (w : Stores). w.inexact) c.eliminate-stores.ensures.value in
    omega (arith, k, one-most (inexact (at c.args.n (mirrored c.args.n c.args.l.now) c.args.j c.args.j)))
