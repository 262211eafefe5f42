-- What the factorization on bytes answers: its decomposition and all four buffers.
use Rattle.std.specs.Prelude.{List, [], cond, ℕ, ◌*◌, length}
use Rattle.arithmetic.specs.Outcome.{complete, ◌then◌}
use Rattle.arithmetic.specs.Outcome.{Outcome}
use Rattle.std.specs.Prelude.{Ok}
use Rattle.matrix.specs.Matrix.{zeros}
use Rattle.matrix.specs.Checks.{check_buffer, check_finite, check_symmetric}
use Rattle.methods.specs.Calls.{operand_chain, method_of, unstarted}
use Rattle.methods.specs.Factor.{factor, tolerances}
use Rattle.methods.specs.Result.{Result}
use Rattle.methods.specs.declared.decomposition.Decomposition.{Decomposition}
use Rattle.encoding.specs.Bytes.{doubles, double_bytes, numbers}
use Rattle.encoding.specs.Checks.{check_entries, number_byte_checks}

pub record BytesCall : Type 0 where
  pub decomposition : Decomposition
  pub l : List ℕ
  pub work : List ℕ
  pub e : List ℕ
  pub p : List ℕ

abbrev pub bytes_call : Decomposition → List ℕ → List ℕ → List ℕ → List ℕ → BytesCall
bytes_call decomposition l work e p = record { decomposition = decomposition; l = l; work = work; e = e; p = p }

-- 2, 3, 4, what the number checks come to, 5; on the lengths in bytes
abbrev pub operand_byte_checks : ℕ → ℕ → ℕ → Outcome → ℕ → ℕ → ℕ → ℕ → Outcome
operand_byte_checks method n a numbering l work e p =
    operand_chain method n (check_entries n a) numbering (check_buffer (8 * (n * n)) l) (check_buffer (8 * (n * n)) work) (check_buffer (8 * n) e) (check_buffer n p)

-- .. then 7, on bytes
unfoldable pub entry_byte_checks : ℕ → ℕ → List ℕ → Outcome → ℕ → ℕ → ℕ → ℕ → Outcome
entry_byte_checks method n a numbering l work e p = operand_byte_checks method n (length a) numbering l work e p then check_finite n (doubles a)

-- .. then 8
abbrev pub factor_byte_checks : ℕ → ℕ → List ℕ → Outcome → ℕ → ℕ → ℕ → ℕ → Outcome
factor_byte_checks method n a numbering l work e p = entry_byte_checks method n a numbering l work e p then check_symmetric n (doubles a)

-- refused before the first step: every buffer untouched
abbrev pub untouched_bytes : Outcome → List ℕ → List ℕ → List ℕ → List ℕ → BytesCall
untouched_bytes outcome l work e p = bytes_call (unstarted outcome) l work e p

-- after a run the work buffer is +0.0 throughout
abbrev pub answered_bytes : ℕ → Result → BytesCall
answered_bytes n r = bytes_call r.decomposition (double_bytes r.l) (double_bytes (zeros (n * n))) (double_bytes r.e) r.p

-- a call of which `numbering` is what the number checks come to
unfoldable pub bytes_call_with : Outcome → List ℕ → ℕ → ℕ → List ℕ → List ℕ → List ℕ → List ℕ → List ℕ → BytesCall
unfolding factor double_bytes
bytes_call_with numbering ns method n a l work e p =
    let checks = factor_byte_checks method n a numbering (length l) (length work) (length e) (length p) in
    cond (complete checks) (answered_bytes n (factor (method_of method) tolerances ns n (doubles a))) (untouched_bytes checks l work e p)

-- without numbers
abbrev pub factor_bytes_call : ℕ → ℕ → List ℕ → List ℕ → List ℕ → List ℕ → List ℕ → BytesCall
factor_bytes_call method n a l work e p = bytes_call_with (Ok tt) [] method n a l work e p

-- with a number for each contract, in b
abbrev pub factor_numbered_bytes_call : ℕ → ℕ → List ℕ → List ℕ → List ℕ → List ℕ → List ℕ → List ℕ → BytesCall
factor_numbered_bytes_call method n a b l work e p = bytes_call_with (number_byte_checks n b) (numbers b) method n a l work e p
