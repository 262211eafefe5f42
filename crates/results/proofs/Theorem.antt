-- The theorem on results: each method's values at the end of a run are sound.
use mathlib.Core.List.{List}
use Prim.Native.Nat.{ℕ, ◌<◌}
use lib.Ieee.{Float}
use Rattle.methods.specs.AcceptedMatrix.{AcceptedMatrix}
use Rattle.methods.specs.Factor.{factor, tolerances}
use Rattle.methods.specs.Gmw81 as gmw
use Rattle.methods.specs.Se as se
use Rattle.methods.specs.declared.method.Method.{Method}
use Rattle.methods.specs.declared.method.Method.TheVariants.{Gmw81, Se}
use Rattle.methods.specs.declared.schnabel_eskow.Tolerances.{Tolerances}
use Rattle.methods.proofs.Counts.{gmw81-count, se_count}
use Rattle.methods.proofs.GmwRuns as gmw-runs
use Rattle.methods.proofs.SeRuns.{run-permuted}
use Rattle.results.specs.Results.{Sound, CountTheorem, ResultsTheorem}
use Rattle.results.proofs.AmountsGmw81.{amounts-gmw81}
use Rattle.results.proofs.AmountsLast.{PositiveTolerances, tolerances-positive}
use Rattle.results.proofs.AmountsSe.{amounts-se}
use Rattle.results.proofs.LowerGmw81.{lower-gmw81}
use Rattle.results.proofs.LowerSe.{lower-se}
use Rattle.results.proofs.DoubleRuns.{doubles-gmw81, doubles-se}
use Rattle.results.proofs.Marks.{below-gmw81, below-se}
use Rattle.results.proofs.Handed.{reported-count, handed-sound}

-- for every tolerances above zero
sound : (t : Tolerances) → PositiveTolerances t → (method : Method) (numbers : List ℕ) (n : ℕ) (a : List Float) → 0 < n → AcceptedMatrix n a → Sound n (factor method t numbers n a)
unfolding factor gmw.mod_cholesky_gmw81 se.mod_cholesky_se
sound t P Gmw81 numbers n a some A = handed-sound n (gmw.run numbers n a).progress (gmw.run numbers n a).l (gmw.run numbers n a).e (gmw.run numbers n a).p
    (record { amounts = amounts-gmw81 numbers n a; lower = lower-gmw81 numbers n a A; doubles = doubles-gmw81 numbers n a; permuted = gmw-runs.run-permuted numbers n a; marks = below-gmw81 numbers n a; count = gmw81-count numbers n a })
sound t P (Se v) numbers n a some A = handed-sound n (se.run v t numbers n a).progress _ _ (se.run v t numbers n a).p
    (record { amounts = amounts-se v t P numbers n a some; lower = lower-se v t numbers n a A; doubles = λ e. doubles-se v t numbers n a some A; permuted = run-permuted v t numbers n a; marks = below-se v t numbers n a; count = se_count v t numbers n a })

pub counts : CountTheorem
unfolding factor gmw.mod_cholesky_gmw81 se.mod_cholesky_se
counts Gmw81 t numbers n a = reported-count n (gmw.run numbers n a).progress (gmw81-count numbers n a)
counts (Se v) t numbers n a = reported-count n (se.run v t numbers n a).progress (se_count v t numbers n a)

pub results : ResultsTheorem
results = sound tolerances tolerances-positive
