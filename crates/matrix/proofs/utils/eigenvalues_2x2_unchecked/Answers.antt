use Rattle.matrix.specs.Eigenvalues.{eigenvalues_of}
use Rattle.matrix.proofs.utils.eigenvalues_2x2_unchecked.Goals as goal

pub returns : goal.returns
unfolding eigenvalues_of
returns c = rw (c.ordered.ensures, c.sqrt_unchecked-tmp.ensures)
