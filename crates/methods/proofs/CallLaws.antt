-- What the operands of an accepted call are.
use mathlib.Core.Path.{◌≡◌, refl, sym, ap, ◌∙◌}
use mathlib.Core.Bool.{false, not}
use mathlib.Core.List.{List}
use Prim.Native.Nat.{ℕ, ◌+◌, ◌*◌, ◌≤◌, ◌<◌}
use native.Mathlib.Decide.{dec_lt}
use native.Mathlib.Omega.{arith}
use lib.Dec.{T}
use lib.ListN.{length, get_or}
use lib.Ieee.{Float, nan, binary64, fits}
use Rattle.arithmetic.specs.Outcome.{complete, ◌then◌, Outcome}
use Rattle.arithmetic.proofs.Cases.{Is, is, holds, fails}
use Rattle.matrix.specs.Matrix.{Square}
use Rattle.matrix.specs.Checks.{check_matrix, check_buffer, check_size, AllFinite}
use Rattle.matrix.proofs.CheckLaws.{Accepted, refused, both_accepted, size_accepted, matrix-accepted, buffer_accepted, entries-accepted, symmetric-accepted}
use Rattle.methods.specs.Elimination.{Symmetric}
use Rattle.methods.specs.Calls.{check_method, operand_chain, operand_checks, factor_checks, call_with, Operands}

-- ---- above 48 rows a call is refused by its first two checks, whatever the others say
stays : (o rest : Outcome) → complete o ≡ false → (o then rest) ≡ o
stays o rest h = sym (refused refl refl rest (ap not h))

too_large : (method n : ℕ) → 48 < n → complete (check_method method then check_size n) ≡ false
too_large method n h = go (is (complete (check_method method then check_size n)))
  where
    go : Is (complete (check_method method then check_size n)) → complete (check_method method then check_size n) ≡ false
    go (holds e) = absurd (omega (arith, (size_accepted n (both_accepted (check_method method) (check_size n) (record { is = e })).1).1))
    go (fails e) = e

chain_refused : (method n : ℕ) (matrix numbering l work e p : Outcome) → 48 < n → operand_chain method n matrix numbering l work e p ≡ (check_method method then check_size n)
chain_refused method n matrix numbering l work e p h =
    let o = check_method method then check_size n in
    let z = too_large method n h in
    rw (stays o matrix z, stays o numbering z, stays o l z, stays o work z, stays o e z, stays o p z)

-- .. so its number checks count up to 48 rows alone
pub chain_same : (method n : ℕ) (matrix x y l work e p : Outcome) → (n ≤ 48 → x ≡ y) → operand_chain method n matrix x l work e p ≡ operand_chain method n matrix y l work e p
chain_same method n matrix x y l work e p h = elim (dec_lt 48 n) [
  | yes q ↦ chain_refused method n matrix x l work e p q ∙ sym (chain_refused method n matrix y l work e p q)
  | no q ↦ rw (h (omega arith))
]

pub call_same : (x y : Outcome) (numbers : List ℕ) (method n : ℕ) (a l work e : List Float) (p : List ℕ) → (n ≤ 48 → x ≡ y) → call_with x numbers method n a l work e p ≡ call_with y numbers method n a l work e p
unfolding call_with
call_same x y numbers method n a l work e p h = rw (chain_same method n _ x y _ _ _ _ h)

-- ---- each check of a chain that passes
pub record ChainPassed (method n : ℕ) (matrix numbering l work e p : Outcome) : Type 0 where
  pub method_is : Accepted (check_method method)
  pub size_is : (0 < n) × (n ≤ 48)
  pub matrix-is : Accepted matrix
  pub numbering_is : Accepted numbering
  pub l_is : Accepted l
  pub work_is : Accepted work
  pub e_is : Accepted e
  pub p_is : Accepted p

pub chain_passed : (method n : ℕ) (matrix numbering l work e p : Outcome) → Accepted (operand_chain method n matrix numbering l work e p) → ChainPassed method n matrix numbering l work e p
chain_passed method n matrix numbering l work e p h =
    let P = both_accepted _ _ h in
    let E = both_accepted _ _ P.0 in
    let W = both_accepted _ _ E.0 in
    let L = both_accepted _ _ W.0 in
    let N = both_accepted _ _ L.0 in
    let M = both_accepted _ _ N.0 in
    let S = both_accepted _ _ M.0 in
    let size = size_accepted n S.1 in
    record { method_is = S.0; size_is = (size.0, omega (arith, size.1)); matrix-is = M.1; numbering_is = N.1; l_is = L.1; work_is = W.1; e_is = E.1; p_is = P.1 }

-- ---- the premises of check 8: those of 2 to 5 and of 7 passed
module _ (method n : ℕ) (a : List Float) (numbering : Outcome) (l work e p : ℕ) where
  pub operands_chain : Accepted (operand_checks method n (length a) numbering l work e p) → ChainPassed method n (check_matrix n (length a)) numbering (check_buffer (n * n) l) (check_buffer (n * n) work) (check_buffer n e) (check_buffer n p)
  operands_chain = chain_passed _ _ _ _ _ _ _ _

  pub square-operand : Accepted (operand_checks method n (length a) numbering l work e p) → Square n a
  square-operand h = let C = operands_chain h in record { len = matrix-accepted n (length a) C.matrix-is; small = C.size_is.1 }

  operands_accepted : Accepted (operand_checks method n (length a) numbering l work e p) → AllFinite n a → Symmetric n a → Operands n a l work e p
  operands_accepted h f y =
      let C = operands_chain h in
      record {
        some = C.size_is.0;
        square = square-operand h;
        finite_entries = f;
        symmetric = y;
        l_is = buffer_accepted (n * n) l C.l_is;
        work_is = buffer_accepted (n * n) work C.work_is;
        e_is = buffer_accepted n e C.e_is;
        p_is = buffer_accepted n p C.p_is;
      }

  pub factor-accepted : ((k : ℕ) → T (fits binary64 (get_or a k nan))) → Accepted (factor_checks method n a numbering l work e p) → Operands n a l work e p
  factor-accepted d h =
      let y = both_accepted _ _ h in
      let f = both_accepted _ _ y.0 in
      operands_accepted f.0 (entries-accepted n a (square-operand f.0) f.1) (record { same = symmetric-accepted n a (λ i j p q. d (i * n + j)) y.1 })
