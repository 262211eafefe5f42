-- The factorization on bytes: what its operands are, that its result can be written, and what is then answered.
use mathlib.Core.Path.{◌≡◌, refl, sym, ap, ap₂, ◌∙◌}
use mathlib.Core.List.{List}
use mathlib.Core.Bool.{false, not}
use Prim.Native.Nat.{ℕ, ◌+◌, ◌*◌, ◌≤◌, ◌<◌}
use native.Mathlib.Omega.{arith}
use lib.ListN.{length, replicate}
use lib.Dec.{T}
use lib.Ieee.{Float, binary64, fits}
use Rattle.arithmetic.specs.Outcome.{complete, ◌then◌}
use Rattle.arithmetic.proofs.OutcomeLaws.{complete-is}
use Rattle.arithmetic.specs.Outcome.{Outcome}
use Rattle.std.specs.Prelude.{Ok}
use Rattle.matrix.specs.Matrix.{Square, at, zeros}
use Rattle.matrix.specs.Plain.{AllBelow}
use Rattle.matrix.specs.Checks.{check_finite, check_symmetric, AllFinite}
use Rattle.matrix.proofs.CellLaws.{cell_lt}
use Rattle.matrix.proofs.CheckLaws.{Accepted, refused, both_accepted, goes_on, buffer_accepted, entries-accepted, symmetric-accepted}
use Rattle.methods.specs.AcceptedMatrix.{AcceptedMatrix}
use Rattle.methods.specs.Calls.{Call, call, answered, method_of, Operands}
use Rattle.methods.specs.Factor.{factor, tolerances}
use Rattle.methods.specs.Result.{Result}
use Rattle.methods.specs.declared.method.Method.{Method}
use Rattle.methods.specs.declared.decomposition.Decomposition.{Decomposition}
use Rattle.methods.proofs.CallLaws.{chain_same, chain_passed}
use Rattle.results.specs.Results.{Sound}
use Rattle.results.proofs.Theorem.{results}
use Rattle.encoding.specs.Bytes.{doubles, double_bytes, numbers}
use Rattle.encoding.specs.Checks.{number_byte_checks}
use Rattle.encoding.specs.Writing.{over, EachFinite}
use Rattle.encoding.proofs.ByteLaws.{length-content}
use Rattle.encoding.proofs.Checked.{entries-length, each_entry}
use Rattle.encoding.proofs.ContractNumbers.{number-checks-accepted}
use Rattle.encoding.proofs.Doubles.{doubles-length, doubles-fit}
use Rattle.encoding.proofs.Over.{over-all}
use Rattle.encoding.proofs.Rewritten.{zero_bytes}
use Rattle.byte_factor.specs.Factor.{BytesCall, bytes_call, operand_byte_checks, entry_byte_checks, factor_byte_checks, untouched_bytes, bytes_call_with, factor_numbered_bytes_call}

-- ---- the operands
pub record Sized (n : ℕ) (a : List ℕ) (l work e p : ℕ) : Type 0 where
  pub some : 0 < n
  pub a_is : length a ≡ 8 * (n * n)
  pub l_is : l ≡ 8 * (n * n)
  pub work_is : work ≡ 8 * (n * n)
  pub e_is : e ≡ 8 * n
  pub p_is : p ≡ n
  pub square : Square n (doubles a)
  pub finite_entries : Accepted (check_finite n (doubles a))

pub sized : (method n : ℕ) (a : List ℕ) (numbering : Outcome) (l work e p : ℕ) → Accepted (entry_byte_checks method n a numbering l work e p) → Sized n a l work e p
unfolding entry_byte_checks
sized method n a numbering l work e p h =
    let f = both_accepted (operand_byte_checks method n (length a) numbering l work e p) _ h in
    let C = chain_passed method n _ numbering _ _ _ _ f.0 in
    let k = entries-length n (length a) C.matrix-is in
    record {
      some = C.size_is.0;
      a_is = k;
      l_is = buffer_accepted _ _ C.l_is;
      work_is = buffer_accepted _ _ C.work_is;
      e_is = buffer_accepted _ _ C.e_is;
      p_is = buffer_accepted _ _ C.p_is;
      square = record { len = doubles-length a ∙ omega arith; small = C.size_is.1 };
      finite_entries = f.1;
    }

module _ (n : ℕ) (a : List ℕ) (l work e p : ℕ) (S : Sized n a l work e p) where
  pub all-finite : AllFinite n (doubles a)
  all-finite = entries-accepted n (doubles a) S.square S.finite_entries

  fits_at : (i j : ℕ) → i < n → j < n → T (fits binary64 (at n (doubles a) i j))
  fits_at i j p q = doubles-fit a (i * n + j) (omega (arith, S.square.len, cell_lt n i j p q))

  matrix-is : Accepted (check_symmetric n (doubles a)) → AcceptedMatrix n (doubles a)
  matrix-is k = record { entries = S.square.len; doubles = fits_at; finite_entries = all-finite; symmetric = symmetric-accepted n (doubles a) fits_at k }

  pub operands : Accepted (check_symmetric n (doubles a)) → (l2 work2 e2 p2 : ℕ) → l2 ≡ n * n → work2 ≡ n * n → e2 ≡ n → p2 ≡ n → Operands n (doubles a) l2 work2 e2 p2
  operands k l2 work2 e2 p2 el ew ee ep = record { some = S.some; square = S.square; finite_entries = all-finite; symmetric = record { same = symmetric-accepted n (doubles a) fits_at k }; l_is = el; work_is = ew; e_is = ee; p_is = ep }

  pub sound : Accepted (check_symmetric n (doubles a)) → (m : Method) (ns : List ℕ) → Sound n (factor m tolerances ns n (doubles a))
  sound k m ns = results m ns n (doubles a) S.some (matrix-is k)

-- ---- what a run hands back can be written
pub record Writable (n : ℕ) (l e : List Float) (p : List ℕ) : Type 0 where
  pub l_is : length l ≡ n * n
  pub e_is : length e ≡ n
  pub p_is : length p ≡ n
  pub l_finite : EachFinite l
  pub e_finite : EachFinite e
  pub p_small : AllBelow 256 p

writable_result : (n : ℕ) (r : Result) → 0 < n → n ≤ 48 → Sound n r → Writable n r.l r.e r.p
writable_result n r np small s = record {
  l_is = s.lower.len;
  e_is = s.amounts.len;
  p_is = s.permutation.len;
  l_finite = each_entry n r.l np s.lower.len s.lower.finite_entries;
  e_finite = λ k q. s.amounts.finite_amounts k (omega (arith, s.amounts.len));
  p_small = λ k q. omega (arith, s.permutation.len, s.permutation.below k (omega (arith, s.permutation.len)));
}

-- ---- number checks count up to 48 rows alone: above these the call is refused before them
pub same-checks : (method n : ℕ) (a : List ℕ) (x y : Outcome) (l work e p : ℕ) → (n ≤ 48 → x ≡ y) → entry_byte_checks method n a x l work e p ≡ entry_byte_checks method n a y l work e p
unfolding entry_byte_checks
same-checks method n a x y l work e p h = rw (chain_same method n _ x y _ _ _ _ h)

-- ---- a call with numbers whose checks pass
module _ (method n : ℕ) (a b : List ℕ) (l work e p : ℕ) (h : Accepted (entry_byte_checks method n a (number_byte_checks n b) l work e p)) where
  N : Accepted (number_byte_checks n b)
  unfolding entry_byte_checks
  N = (chain_passed method n _ (number_byte_checks n b) _ _ _ _ (both_accepted (operand_byte_checks method n (length a) (number_byte_checks n b) l work e p) _ h).0).numbering_is

  pub numbers-read : length b ≡ 4 * n
  numbers-read = (number-checks-accepted n b N).0

  -- .. goes on as one whose number checks came to Ok
  pub passes_without : Accepted (entry_byte_checks method n a (Ok tt) l work e p)
  passes_without = rw (complete-is (number_byte_checks n b) N.is) at h

pub numbered_is : (method n : ℕ) (a b l work e p : List ℕ) → Accepted (entry_byte_checks method n a (number_byte_checks n b) (length l) (length work) (length e) (length p))
    → (r : BytesCall) (ns : List ℕ) → ns ≡ numbers b → r ≡ bytes_call_with (Ok tt) ns method n a l work e p → r ≡ factor_numbered_bytes_call method n a b l work e p
numbered_is method n a b l work e p h r ns en er =
    er ∙ ap₂ (λ (o : Outcome) (x : List ℕ). bytes_call_with o x method n a l work e p) (sym (complete-is (number_byte_checks n b) (N method n a b _ _ _ _ h).is)) en

-- ---- the call
pub call-refused : (numbering : Outcome) (ns : List ℕ) (method n : ℕ) (a l work e p : List ℕ) (o : Outcome) → let checks = entry_byte_checks method n a numbering (length l) (length work) (length e) (length p) in o ≡ checks → complete checks ≡ false
    → (d : Decomposition) → d ≡ (untouched_bytes o l work e p).decomposition → bytes_call d l work e p ≡ bytes_call_with numbering ns method n a l work e p
unfolding bytes_call_with
call-refused numbering ns method n a l work e p o eo h d ed =
    let checks = entry_byte_checks method n a numbering (length l) (length work) (length e) (length p) in
    let s : checks ≡ (checks then check_symmetric n (doubles a)) = refused refl refl (check_symmetric n (doubles a)) (ap not h) in
    rw (← s, h, ed, eo)

module _ (ns : List ℕ) (method n : ℕ) (a l work e p : List ℕ) (h : Accepted (entry_byte_checks method n a (Ok tt) (length l) (length work) (length e) (length p))) where
  S : Sized n a (length l) (length work) (length e) (length p)
  S = sized method n a (Ok tt) (length l) (length work) (length e) (length p) h

  pub call-unsymmetric : (o : Outcome) → o ≡ check_symmetric n (doubles a) → complete (check_symmetric n (doubles a)) ≡ false → (d : Decomposition) → d ≡ (untouched_bytes o l work e p).decomposition → bytes_call d l work e p ≡ bytes_call_with (Ok tt) ns method n a l work e p
  unfolding bytes_call_with
  call-unsymmetric o eo c d ed =
      let s : check_symmetric n (doubles a) ≡ (entry_byte_checks method n a (Ok tt) (length l) (length work) (length e) (length p) then check_symmetric n (doubles a)) = goes_on h refl in
      rw (← s, c, ed, eo)

  -- a run
  module _ (k : Accepted (check_symmetric n (doubles a))) (m : Method) (em : m ≡ method_of method) (a2 l2 work2 e2 : List Float) (p2 : List ℕ) (d : Decomposition) (reads : a2 ≡ doubles a)
      (runs : call d l2 work2 e2 p2 ≡ answered n (factor m tolerances ns n a2)) where
    ran : call d l2 work2 e2 p2 ≡ answered n (factor (method_of method) tolerances ns n (doubles a))
    ran = runs ∙ ap₂ (λ (x : Method) (y : List Float). answered n (factor x tolerances ns n y)) em reads

    pub writable : Writable n l2 e2 p2
    writable =
        let W = writable_result n (factor (method_of method) tolerances ns n (doubles a)) S.some S.square.small (sound n a _ _ _ _ S k (method_of method) ns) in
        rw (ap (λ (x : Call). x.l) ran, ap (λ (x : Call). x.e) ran, ap (λ (x : Call). x.p) ran) W

    pub call-answered : (l' work' e' p' : List ℕ) → l' ≡ over l 0 (double_bytes l2) → e' ≡ over e 0 (double_bytes e2) → p' ≡ over p 0 p2 → work' ≡ replicate (length work) 0 → bytes_call d l' work' e' p' ≡ bytes_call_with (Ok tt) ns method n a l work e p
    unfolding bytes_call_with
    call-answered l' work' e' p' wl we wp ww =
        let W = writable in
        let s : check_symmetric n (doubles a) ≡ (entry_byte_checks method n a (Ok tt) (length l) (length work) (length e) (length p) then check_symmetric n (doubles a)) = goes_on h refl in
        let el : l' ≡ double_bytes l2 = wl ∙ over-all l (double_bytes l2) (length-content l2 ∙ omega (arith, W.l_is, S.l_is)) in
        let ee : e' ≡ double_bytes e2 = we ∙ over-all e (double_bytes e2) (length-content e2 ∙ omega (arith, W.e_is, S.e_is)) in
        let ep : p' ≡ p2 = wp ∙ over-all p p2 (omega (arith, W.p_is, S.p_is)) in
        let ew : work' ≡ double_bytes (zeros (n * n)) = ww ∙ ap (λ (x : ℕ). replicate x 0) S.work_is ∙ sym (zero_bytes (n * n)) in
        rw (← s, k.is, el, ee, ep, ew) (ap (λ (x : Call). bytes_call x.decomposition (double_bytes x.l) (double_bytes (zeros (n * n))) (double_bytes x.e) x.p) ran)
