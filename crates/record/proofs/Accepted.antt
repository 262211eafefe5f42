-- What a request that passed its checks is: n rows of n finite doubles.
use mathlib.Core.Path.{◌≡◌, ◌∙◌}
use mathlib.Core.List.{List}
use Prim.Native.Nat.{ℕ, ◌+◌, ◌*◌, ◌/◌, ◌≤◌, ◌<◌}
use native.Mathlib.Omega.{arith}
use lib.ListN.{length}
use lib.Dec.{T}
use lib.Ieee.{binary64, fits}
use Rattle.arithmetic.specs.Outcome.{◌then◌}
use Rattle.arithmetic.proofs.Cases.{is, holds, fails}
use Rattle.matrix.specs.Matrix.{Square, at}
use Rattle.matrix.proofs.CellLaws.{cell_lt}
use Rattle.matrix.specs.Checks.{check_size, check_finite, check_symmetric}
use Rattle.matrix.proofs.CheckLaws.{Accepted, both_accepted, size_accepted, buffer_accepted, entries-accepted, symmetric-accepted}
use Rattle.methods.specs.AcceptedMatrix.{AcceptedMatrix}
use Rattle.methods.specs.Calls.{check_method}
use Rattle.encoding.specs.Bytes.{doubles}
use Rattle.encoding.specs.Checks.{check_entries}
use Rattle.answer_record.specs.AnswerRecord.{longest_answer}
use Rattle.record.specs.MatrixRecord.{numbered, request_number_checks, request_checks}
use Rattle.record.specs.Record.{OwnContracts}
use Rattle.record.specs.declared.read.Request.{Request}
use Rattle.encoding.proofs.Checked.{entries-length}
use Rattle.encoding.proofs.ContractNumbers.{number-checks-accepted}
use Rattle.encoding.proofs.Doubles.{doubles-length, doubles-fit}

-- 2, 3 and 4
pub record Sized (r : Request) (entries : List ℕ) : Type 0 where
  pub some : 0 < r.size
  pub bytes-are : length entries ≡ 8 * (r.size * r.size)
  pub square : Square r.size (doubles entries)

module _ (r : Request) (room : ℕ) (contracts entries : List ℕ) where
  pub sized : Accepted (check_method r.method then check_size r.size then check_entries r.size (length entries)) → Sized r entries
  sized h =
      let e = both_accepted _ _ h in
      let s = size_accepted r.size (both_accepted _ _ e.0).1 in
      let l = entries-length r.size (length entries) e.1 in
      record { some = s.0; bytes-are = l; square = record { len = doubles-length entries ∙ omega (arith, l); small = s.1 } }

  -- .. and 7
  pub request-accepted : Accepted (request_checks r room contracts entries) → Sized r entries × Accepted (check_finite r.size (doubles entries))
  request-accepted h = let f = both_accepted _ _ h in (sized (both_accepted _ _ (both_accepted _ _ f.0).0).0, f.1)

  -- .. and 5
  pub room_accepted : Accepted (request_checks r room contracts entries) → room ≡ longest_answer
  room_accepted h = buffer_accepted longest_answer room (both_accepted _ _ (both_accepted _ _ h).0).1

  -- .. 12 and 13: where there is a field 04, it has a number for each contract
  numbering_accepted : Accepted (request_checks r room contracts entries) → Accepted (request_number_checks r contracts)
  numbering_accepted h = (both_accepted _ _ (both_accepted _ _ (both_accepted _ _ h).0).0).1

  pub contracts-fit : Accepted (request_checks r room contracts entries) → OwnContracts r contracts → (length contracts ≡ 4 * (length contracts / 4)) × (length contracts / 4 ≤ 48)
  contracts-fit h own = elim (is (numbered r)) [
    | holds e ↦
        let N : Accepted (request_number_checks r contracts) = numbering_accepted h in
        let l = (number-checks-accepted r.size contracts (rw e at N)).0 in
        (omega (arith, l), omega (arith, l, (request-accepted h).0.square.small))
    | fails e ↦ (omega (arith, own e), omega (arith, own e))
  ]

  -- .. and 8: a matrix as the theorems about whole runs take it
  pub matrix-accepted : Accepted (request_checks r room contracts entries) → Accepted (check_symmetric r.size (doubles entries)) → AcceptedMatrix r.size (doubles entries)
  matrix-accepted h k =
      let c = request-accepted h in
      let n = r.size in
      let m = doubles entries in
      let s : Square n m = c.0.square in
      let d : (i j : ℕ) → i < n → j < n → T (fits binary64 (at n m i j)) = λ i j p q. doubles-fit entries (i * n + j) (omega (arith, s.len, cell_lt n i j p q)) in
      record { entries = s.len; doubles = d; finite_entries = entries-accepted n m s c.1; symmetric = symmetric-accepted n m d k }
