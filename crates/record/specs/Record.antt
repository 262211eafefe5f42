-- The answer to a record: every list of bytes has one.
use Rattle.std.specs.Prelude.{List, [], false, cond, ◌≡◌, ℕ, ◌*◌, ◌<◌, ◌≤◌, eqb, length, take, Float}
use Rattle.arithmetic.specs.Outcome.{complete}
use Rattle.arithmetic.specs.Outcome.{Outcome}
use Rattle.matrix.specs.Matrix.{Square}
use Rattle.matrix.specs.Checks.{check_symmetric, AllFinite}
use Rattle.methods.specs.Result.{Result}
use Rattle.methods.specs.Factor.{factor, tolerances}
use Rattle.methods.specs.Calls.{Call, method_of, unstarted, answered, untouched}
use Rattle.encoding.specs.Bytes.{numbers, doubles}
use Rattle.record.specs.MatrixRecord.{request, numbered, numbers_of, matrix_of, record_checks}
use Rattle.answer_record.specs.AnswerRecord.{longest_answer, answer_record}
use Rattle.encoding.specs.Writing.{over}
use Rattle.answer_record.specs.Writing.{Front}
use Rattle.record.specs.declared.answer.RecordAnswer.{RecordAnswer}
use Rattle.record.specs.declared.read.Request.{Request}

-- refused before the first step
abbrev pub refused : Outcome → Result
refused outcome = record { decomposition = unstarted outcome; l = []; e = []; p = [] }

-- what a record's checks and run end with, where the answer's buffer has its own length
unfoldable pub result_of : List ℕ → Result
unfolding request factor numbers doubles
result_of b = let checks = record_checks b longest_answer in
    cond (complete checks) (factor (method_of (request b).method) tolerances (numbers_of b) (request b).size (matrix_of b)) (refused checks)

unfoldable pub answer : List ℕ → List ℕ
unfolding result_of answer_record
answer b = answer_record (result_of b)

-- ---- what the record call hands back: its outcome with the answer's length, and the buffer
pub record RecordCall : Type 0 where
  pub handed : RecordAnswer
  pub out : List ℕ

abbrev pub record_call_of : Outcome → ℕ → List ℕ → RecordCall
record_call_of outcome len out = record { handed = record { outcome = outcome; len = len }; out = out }

-- the answer is the first bytes of the buffer, which `&out[..n]` asks for
abbrev pub Counts : ℕ → List ℕ → Type 0
Counts n out = (n ≤ length out) × (n ≡ length (take n out))

-- a buffer of another length stays as it is, and the length is 0: the outcome is then 5, or an earlier check's
unfoldable pub record_call : List ℕ → List ℕ → RecordCall
unfolding answer over
record_call b out =
    cond (eqb (length out) longest_answer)
    (record_call_of (result_of b).decomposition.outcome (length (answer b)) (over out 0 (answer b)))
    (record_call_of (record_checks b (length out)) 0 out)

-- ---- a request that passed the checks on bytes: check 8, then the run
unfoldable pub result_to : Request → List ℕ → List ℕ → Result
unfolding factor numbers doubles
result_to r contracts entries =
    let a = doubles entries in
    let symmetric = check_symmetric r.size a in
    cond (complete symmetric) (factor (method_of r.method) tolerances (numbers contracts) r.size a) (refused symmetric)

-- without a field 04 there are no bytes of one
abbrev pub OwnContracts : Request → List ℕ → Type 0
OwnContracts r contracts = numbered r ≡ false → length contracts ≡ 0

-- the answer to a result stands at the front of the buffer, and its length and outcome are handed back
pub record Answers (t : Result) (out out' : List ℕ) (r : RecordAnswer) : Type 0 where
  pub front : Front (answer_record t) out out' r.len
  pub outcome_is : r.outcome ≡ t.decomposition.outcome

-- the lengths of a matrix of n rows, of L, work, e and p
abbrev pub Buffers : ℕ → ℕ → ℕ → ℕ → ℕ → ℕ → Type 0
Buffers n a l work e p = (a ≡ n * n) × (l ≡ n * n) × (work ≡ n * n) × (e ≡ n) × (p ≡ n)

-- what is lent to it: rows of finite entries, and buffers of the lengths that go with them
pub record Lent (n : ℕ) (a : List Float) (l work e p : ℕ) : Type 0 where
  pub some : 0 < n
  pub square : Square n a
  pub finite_entries : AllFinite n a
  pub l_is : l ≡ n * n
  pub work_is : work ≡ n * n
  pub e_is : e ≡ n
  pub p_is : p ≡ n

-- .. and what it does to the buffers
unfoldable pub request_call : Request → List ℕ → List Float → List Float → List Float → List Float → List ℕ → Call
unfolding factor
request_call r contractNumbers a l work e p =
    let symmetric = check_symmetric r.size a in
    cond (complete symmetric) (answered r.size (factor (method_of r.method) tolerances contractNumbers r.size a)) (untouched symmetric l work e p)
