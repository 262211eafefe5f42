-- What the exported calls hand back: the answers of the calls below them, their outcomes and marks as document 01's numbers.
use Rattle.std.specs.Prelude.{List, ℕ, Float, Result}
use Rattle.arithmetic.specs.Outcome.{Outcome, number, place, ended, value_or}
use Rattle.arithmetic.specs.Sqrt.{no_root}
use Rattle.arithmetic.specs.declared.refusal.Refusal.{Refusal}
use Rattle.arithmetic.specs.declared.sqrt.Rounded.{Rounded}
use Rattle.matrix.specs.Calls.{MatrixCall, no_eigen}
use Rattle.byte_helpers.specs.Helpers.{CirclesBytesCall}
use Rattle.byte_factor.specs.Factor.{BytesCall}
use Rattle.solve.specs.Substitution.{SolveCall}
use Rattle.byte_solve.specs.Solve.{SolveBytesCall}
use Rattle.matrix.specs.declared.utils.Eigen.{Eigen}
use Rattle.methods.specs.Calls.{Call}
use Rattle.methods.specs.Progress.{one_if}
use Rattle.methods.specs.declared.decomposition.Decomposition.{Decomposition}
use Rattle.answer_record.specs.AnswerRecord.{step_byte}
use Rattle.record.specs.Record.{RecordCall}
use Rattle.record.specs.declared.answer.RecordAnswer.{RecordAnswer}
use Rattle.exports.specs.declared.status.Status.{Status}
use Rattle.exports.specs.declared.root.Root.{Root}
use Rattle.exports.specs.declared.helpers.Eigenvalues.{Eigenvalues}
use Rattle.exports.specs.declared.helpers.FoundIndex.{FoundIndex}
use Rattle.exports.specs.declared.factor.Factorization.{Factorization}
use Rattle.exports.specs.declared.records.Written.{Written}

-- ---- numbers
abbrev pub status : Outcome → Status
status o = record { number = number o; row = (place o).row; column = (place o).column }

-- ---- what is handed back by value; beside a refusal it is zero
abbrev pub root : Result Rounded Refusal → Root
root a = let r = value_or no_root a in record { refusal = status (ended a); value = r.value; inexact = one_if r.inexact }

abbrev pub eigenvalues : Result Eigen Refusal → Eigenvalues
eigenvalues a = let e = value_or no_eigen a in record { refusal = status (ended a); hi = e.hi; lo = e.lo }

abbrev pub found : Result ℕ Refusal → FoundIndex
found a = record { refusal = status (ended a); index = value_or 0 a }

-- the steps are the numbers that stand in a record: 255 for none
abbrev pub factorization : Decomposition → Factorization
factorization d = record { refusal = status d.outcome; tied = step_byte d.tied; phase2 = step_byte d.phase2; inexact = d.inexact }

abbrev pub written : RecordAnswer → Written
written a = record { refusal = status a.outcome; length = a.len }

-- ---- with the buffers lent
pub record MatrixExport : Type 0 where
  pub refusal : Status
  pub mat : List ℕ

abbrev pub matrix_export : MatrixCall ℕ → MatrixExport
matrix_export c = record { refusal = status c.outcome; mat = c.mat }

pub record CirclesExport : Type 0 where
  pub refusal : Status
  pub centres : List ℕ
  pub radii : List ℕ

abbrev pub circles_export : CirclesBytesCall → CirclesExport
circles_export c = record { refusal = status c.outcome; centres = c.centres; radii = c.radii }

pub record FactorBytesExport : Type 0 where
  pub factorization : Factorization
  pub l : List ℕ
  pub work : List ℕ
  pub e : List ℕ
  pub p : List ℕ

abbrev pub factor_bytes_export : BytesCall → FactorBytesExport
factor_bytes_export c = record { factorization = factorization c.decomposition; l = c.l; work = c.work; e = c.e; p = c.p }

pub record FactorDoublesExport : Type 0 where
  pub factorization : Factorization
  pub l : List Float
  pub work : List Float
  pub e : List Float
  pub p : List ℕ

abbrev pub factor_doubles_export : Call → FactorDoublesExport
factor_doubles_export c = record { factorization = factorization c.decomposition; l = c.l; work = c.work; e = c.e; p = c.p }

pub record SolveBytesExport : Type 0 where
  pub refusal : Status
  pub y : List ℕ

abbrev pub solve_bytes_export : SolveBytesCall → SolveBytesExport
solve_bytes_export c = record { refusal = status c.outcome; y = c.y }

pub record SolveDoublesExport : Type 0 where
  pub refusal : Status
  pub y : List Float

abbrev pub solve_doubles_export : SolveCall → SolveDoublesExport
solve_doubles_export c = record { refusal = status c.outcome; y = c.y }

pub record RecordExport : Type 0 where
  pub written : Written
  pub answer : List ℕ

abbrev pub record_export : RecordCall → RecordExport
record_export c = record { written = written c.handed; answer = c.out }
