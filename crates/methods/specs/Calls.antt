-- What a factorization call answers, on accepted and refused operands: its decomposition and all four buffers.
use Rattle.std.specs.Prelude.{List, [], cond, not, ◌&&◌, ◌≡◌, ℕ, ◌*◌, ◌<◌, length, leb, Float, Ok, None}
use Rattle.arithmetic.specs.Outcome.{complete, refuse, ◌then◌, Outcome}
use Rattle.arithmetic.specs.declared.refusal.Refusal.TheVariants.{UnknownMethod}
use Rattle.matrix.specs.Matrix.{zeros, Square}
use Rattle.matrix.specs.Checks.{check_size, check_matrix, check_buffer, check_finite, check_symmetric, check_numbers, check_distinct, AllFinite}
use Rattle.methods.specs.Elimination.{Symmetric}
use Rattle.methods.specs.Result.{Result}
use Rattle.methods.specs.Factor.{factor, tolerances}
use Rattle.methods.specs.declared.method.Method.{Method}
use Rattle.methods.specs.declared.method.Method.TheVariants.{Gmw81, Se}
use Rattle.methods.specs.declared.decomposition.Decomposition.{Decomposition}
use Rattle.methods.specs.declared.schnabel_eskow.Variant.TheVariants.{Se90, Se99}

pub record Call : Type 0 where
  pub decomposition : Decomposition
  pub l : List Float
  pub work : List Float
  pub e : List Float
  pub p : List ℕ

abbrev pub call : Decomposition → List Float → List Float → List Float → List ℕ → Call
call decomposition l work e p = record { decomposition = decomposition; l = l; work = work; e = e; p = p }

-- 2
abbrev pub check_method : ℕ → Outcome
check_method method = refuse (not (leb 1 method && leb method 3)) UnknownMethod

-- document 01: 1 GMW81, 2 SE90, 3 SE99
abbrev pub method_of : ℕ → Method
method_of method = cond (leb method 1) Gmw81 (cond (leb method 2) (Se Se90) (Se Se99))

-- 12, 13
abbrev pub number_checks : ℕ → List ℕ → Outcome
number_checks n numbers = check_numbers n (length numbers) then check_distinct numbers

-- 2, 3, then 4 of the matrix, what the number checks come to (complete in a call without numbers), and 5 of each buffer
abbrev pub operand_chain : ℕ → ℕ → Outcome → Outcome → Outcome → Outcome → Outcome → Outcome → Outcome
operand_chain method n matrix numbering l work e p = check_method method then check_size n then matrix then numbering then l then work then e then p

-- .. on the lengths of the matrix and the buffers
abbrev pub operand_checks : ℕ → ℕ → ℕ → Outcome → ℕ → ℕ → ℕ → ℕ → Outcome
operand_checks method n a numbering l work e p =
    operand_chain method n (check_matrix n a) numbering (check_buffer (n * n) l) (check_buffer (n * n) work) (check_buffer n e) (check_buffer n p)

-- .. then 7, 8
abbrev pub factor_checks : ℕ → ℕ → List Float → Outcome → ℕ → ℕ → ℕ → ℕ → Outcome
factor_checks method n a numbering l work e p = operand_checks method n (length a) numbering l work e p then check_finite n a then check_symmetric n a

-- what passes the checks: n rows of n finite entries, symmetric, and buffers of the lengths that go with them
pub record Operands (n : ℕ) (a : List Float) (l work e p : ℕ) : Type 0 where
  pub some : 0 < n
  pub square : Square n a
  pub finite_entries : AllFinite n a
  pub symmetric : Symmetric n a
  pub l_is : l ≡ n * n
  pub work_is : work ≡ n * n
  pub e_is : e ≡ n
  pub p_is : p ≡ n

-- refused before the first step: no marks, no roots
abbrev pub unstarted : Outcome → Decomposition
unstarted outcome = record { outcome = outcome; tied = None; phase2 = None; inexact = 0 }

-- .. and every buffer untouched
abbrev pub untouched : Outcome → List Float → List Float → List Float → List ℕ → Call
untouched outcome l work e p = call (unstarted outcome) l work e p

-- after a run the work buffer is +0.0 throughout
abbrev pub answered : ℕ → Result → Call
answered n r = call r.decomposition r.l (zeros (n * n)) r.e r.p

-- a call of which `numbering` is what the number checks come to
unfoldable pub call_with : Outcome → List ℕ → ℕ → ℕ → List Float → List Float → List Float → List Float → List ℕ → Call
unfolding factor
call_with numbering numbers method n a l work e p =
    let checks = factor_checks method n a numbering (length l) (length work) (length e) (length p) in
    cond (complete checks) (answered n (factor (method_of method) tolerances numbers n a)) (untouched checks l work e p)

-- without numbers
abbrev pub factor_call : ℕ → ℕ → List Float → List Float → List Float → List Float → List ℕ → Call
factor_call method n a l work e p = call_with (Ok tt) [] method n a l work e p

-- with a number for each contract
abbrev pub factor_numbered_call : ℕ → ℕ → List Float → List ℕ → List Float → List Float → List Float → List ℕ → Call
factor_numbered_call method n a numbers l work e p = call_with (number_checks n numbers) numbers method n a l work e p
