-- The checks of a factorization call pass exactly where its operands are accepted; so they pass a reloading too.
use mathlib.Core.Path.{◌≡◌, refl, sym, ap, ◌∙◌, subst}
use mathlib.Core.List.{List}
use mathlib.Core.Bool.{Bool, true, not, ◌&&◌, and-false}
use Prim.Native.Nat.{ℕ, ◌+◌, ◌*◌, ◌/◌, ◌%◌, ◌≤◌, ◌<◌}
use native.Mathlib.Nat.{div-add-mod', div-lt_iff_lt-mul, mod-lt}
use native.Mathlib.Omega.{arith}
use lib.Dec.{T, leb, ltb}
use lib.ListN.{length, get_or}
use lib.Ieee.{Float, nan, binary64, fits, to_bits}
use lib.Ieee.Scale.{finite}
use borrow.Author.Tests.{not-false, leb-true, le-leb, eq-eqb}
use Rattle.arithmetic.specs.Outcome.{Outcome}
use Rattle.std.specs.Prelude.{Ok}
use Rattle.arithmetic.specs.declared.refusal.Refusal.TheVariants.{UnknownMethod, MatrixLength, BufferLength, NumbersLength}
use Rattle.arithmetic.proofs.OrderLaws.{and_1, and_2}
use Rattle.arithmetic.proofs.OutcomeLaws.{refuse-complete}
use Rattle.matrix.specs.Matrix.{at}
use Rattle.matrix.specs.Checks.{check_buffer, check_finite, check_symmetric, not_finite, unsymmetric}
use Rattle.matrix.proofs.CellLaws.{cell_lt}
use Rattle.matrix.proofs.CheckLaws.{Accepted, both_accepted, good_accepted, then_accepted, size_passes, length-passes, none_passes, matrix-accepted, buffer_accepted, entries-accepted, symmetric-accepted, numbers-accepted, distinct-accepted, distinct-passes}
use Rattle.arithmetic.specs.DoubleList.{AllDoubles}
use Rattle.methods.specs.Accepted.{AcceptedOperands, AcceptedTheorem, AcceptedNumbers, AcceptedNumberedTheorem}
use Rattle.methods.specs.AcceptedMatrix.{AcceptedMatrix}
use Rattle.methods.specs.Reloading.{LoadOrder, reload}
use Rattle.methods.specs.Calls.{check_method, number_checks, operand_checks, factor_checks}
use Rattle.methods.proofs.CallLaws.{operands_chain}
use Rattle.methods.proofs.LoadOrders.{order}
use Rattle.methods.proofs.Loaded.{loaded}

-- ---- what passes each check
pub method_passes : (method : ℕ) → 1 ≤ method → method ≤ 3 → Accepted (check_method method)
method_passes method p q = good_accepted (not (leb 1 method && leb method 3)) UnknownMethod (rw (le-leb 1 method p, le-leb method 3 q) refl)

-- position k of n * n is in row k / n and column k % n
cells : (n : ℕ) (P : ℕ → ℕ → ℕ → Type 0) → 1 ≤ n → ((i j : ℕ) → i < n → j < n → P i j (i * n + j)) → (k : ℕ) → k < n * n → P (k / n) (k % n) k
cells n P h c k l = subst (P (k / n) (k % n)) (div-add-mod' k n) (c (k / n) (k % n) ((div-lt_iff_lt-mul h).1 l) (mod-lt k h))

module _ (n : ℕ) (a : List Float) (some : 1 ≤ n) (A : AcceptedMatrix n a) where
  pub finite_passes : Accepted (check_finite n a)
  finite_passes = none_passes (not_finite a) (length a) _ (λ k l. ap not (cells n (λ i j k. finite (get_or a k nan) ≡ true) some A.finite_entries k (omega (arith, A.entries))))

  pub symmetric-passes : Accepted (check_symmetric n a)
  symmetric-passes = none_passes (unsymmetric n a) (n * n) _ (λ k l.
      let e : at n a (k / n) (k % n) ≡ at n a (k % n) (k / n) = cells n (λ i j k. at n a i j ≡ at n a j i) some A.symmetric k l in
      ap (λ (b : Bool). ltb (k / n) (k % n) && not b) (eq-eqb _ _ (ap (to_bits binary64) e)) ∙ and-false (ltb (k / n) (k % n)))

  pub matrix-doubles : AllDoubles a
  matrix-doubles k l = cells n (λ i j k. T (fits binary64 (get_or a k nan))) some A.doubles k (omega (arith, A.entries))

-- ---- both directions
method_accepted : (method : ℕ) → Accepted (check_method method) → (1 ≤ method) × (method ≤ 3)
method_accepted method h =
    let t : (leb 1 method && leb method 3) ≡ true = not-false (leb 1 method && leb method 3) (refuse-complete (not (leb 1 method && leb method 3)) UnknownMethod h.is) in
    (leb-true 1 method (and_1 (leb 1 method) (leb method 3) t), leb-true method 3 (and_2 (leb 1 method) (leb method 3) t))

module _ (method n : ℕ) (a : List Float) (numbering : Outcome) (l work e p : ℕ) where
  operands_passed : Accepted (operand_checks method n (length a) numbering l work e p) → AllDoubles a → Accepted (check_finite n a) → Accepted (check_symmetric n a) → AcceptedOperands method n a l work e p × Accepted numbering
  operands_passed h d f y =
      let C = operands_chain method n a numbering l work e p h in
      let method_is = method_accepted method C.method_is in
      let size_is = C.size_is in
      let entries = matrix-accepted n (length a) C.matrix-is in
      let doubles : (i j : ℕ) → i < n → j < n → T (fits binary64 (at n a i j)) = λ i j u w. d (i * n + j) (omega (arith, entries, cell_lt n i j u w)) in (
        record {
          method_from = method_is.0;
          method_to = method_is.1;
          rows_from = size_is.0;
          rows_to = size_is.1;
          matrix = record {
            entries = entries;
            doubles = doubles;
            finite_entries = entries-accepted n a (record { len = entries; small = size_is.1 }) f;
            symmetric = symmetric-accepted n a doubles y;
          };
          l_is = buffer_accepted (n * n) l C.l_is;
          work_is = buffer_accepted (n * n) work C.work_is;
          e_is = buffer_accepted n e C.e_is;
          p_is = buffer_accepted n p C.p_is;
        },
        C.numbering_is,
      )

  passed : AllDoubles a → Accepted (factor_checks method n a numbering l work e p) → AcceptedOperands method n a l work e p × Accepted numbering
  passed d h = let y = both_accepted _ _ h in let f = both_accepted _ _ y.0 in operands_passed f.0 d f.1 y.1

  pub passes : Accepted numbering → AcceptedOperands method n a l work e p → Accepted (factor_checks method n a numbering l work e p)
  passes N O =
      let buffer : (wanted len : ℕ) → len ≡ wanted → Accepted (check_buffer wanted len) = λ wanted len e. length-passes wanted len BufferLength e in
      let sized = then_accepted (method_passes method O.method_from O.method_to) (size_passes n O.rows_from O.rows_to) in
      let matrix = then_accepted sized (length-passes (n * n) (length a) MatrixLength O.matrix.entries) in
      let matrices = then_accepted (then_accepted (then_accepted matrix N) (buffer (n * n) l O.l_is)) (buffer (n * n) work O.work_is) in
      let operands = then_accepted (then_accepted matrices (buffer n e O.e_is)) (buffer n p O.p_is) in
      then_accepted (then_accepted operands (finite_passes n a O.rows_from O.matrix)) (symmetric-passes n a O.rows_from O.matrix)

pub accepted : AcceptedTheorem
accepted method n a l work e p d =
    (λ h. (passed method n a (Ok tt) l work e p d (record { is = h })).0, λ O. (passes method n a (Ok tt) l work e p (record { is = refl }) O).is)

-- ---- numbers
pub numbers-pass : (n : ℕ) (numbers : List ℕ) → AcceptedNumbers n numbers → Accepted (number_checks n numbers)
numbers-pass n numbers N = then_accepted (length-passes n (length numbers) NumbersLength N.len) (distinct-passes numbers N.distinct)

numbers-passed : (n : ℕ) (numbers : List ℕ) → Accepted (number_checks n numbers) → AcceptedNumbers n numbers
numbers-passed n numbers h = let b = both_accepted _ _ h in record { len = numbers-accepted n (length numbers) b.0; distinct = distinct-accepted numbers b.1 }

pub accepted_numbered : AcceptedNumberedTheorem
accepted_numbered method n a numbers l work e p d =
    let checks = number_checks n numbers in
    (λ h. let P = passed method n a checks l work e p d (record { is = h }) in (P.0, numbers-passed n numbers P.1), λ O. (passes method n a checks l work e p (numbers-pass n numbers O.1) O.0).is)

-- ---- a reloading
pub reload-accepted : (n : ℕ) (a : List Float) (s : List ℕ) → AcceptedMatrix n a → LoadOrder n s → AcceptedMatrix n (reload n s a)
reload-accepted n a s A L =
    let M = (loaded n a s A L).moved in
    record {
      entries = M.entries_b;
      doubles = λ i j p q. rw (M.moved i j p q) (A.doubles (order s i) (order s j) (L.below i p) (L.below j q));
      finite_entries = λ i j p q. rw (M.moved i j p q) (A.finite_entries (order s i) (order s j) (L.below i p) (L.below j q));
      symmetric = λ i j p q. M.moved i j p q ∙ A.symmetric (order s i) (order s j) (L.below i p) (L.below j q) ∙ sym (M.moved j i q p);
    }
