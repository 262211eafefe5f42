-- Laws of checks: searches for the first bad position, chains of checks, and what an accepted check says.
use mathlib.Core.Path.{◌≡◌, refl, sym, ap, ◌∙◌, subst}
use mathlib.Core.List.{List}
use mathlib.Core.Bool.{Bool, true, false, not, ◌||◌, ◌&&◌, true≢false}
use Prim.Native.Nat.{ℕ, suc, ◌+◌, ◌-◌, ◌*◌, ◌≤◌, ◌<◌}
use native.Mathlib.Nat.{sub-zero}
use native.Mathlib.Numerals.{add-one}
use native.Mathlib.Decide.{ℕ_discrete, dec_lt}
use native.Mathlib.Omega.{arith}
use lib.Arith.{digits_div, digits_mod}
use lib.ListN.{length, get_or}
use lib.Dec.{T, eqb, leb, ltb}
use lib.Ieee.{Float, nan, binary64, to_bits, of_bits, fits}
use lib.Ieee.Bits.{of_bits-to_bits}
use lib.Ieee.Scale.{finite}
use borrow.Author.Tests.{not-true, not-false, eq-eqb, ne_eqb, eqb-true, eqb-false, ltb-true, ltb-false, lt-ltb, le-ltb, leb-true, leb-false, le-leb}
use Rattle.arithmetic.specs.All.{all}
use Rattle.arithmetic.proofs.AllLaws.{all-each, all_true}
use Rattle.arithmetic.specs.First.{first, first_from}
use Rattle.arithmetic.proofs.FirstLaws.{first-is, first-none}
use Rattle.arithmetic.proofs.OrderLaws.{or_1, or_2}
use Rattle.arithmetic.specs.Outcome.{Outcome, complete, refuse, ◌then◌}
use Rattle.arithmetic.proofs.OutcomeLaws.{then_complete, refuse-complete}
use Rattle.std.specs.Prelude.{Ok, Err, Option, None, Some}
use Rattle.std.specs.List.{position, position_or_len}
use Rattle.std.proofs.lemmas.List.Sums.{position_or_len_is}
use Rattle.arithmetic.specs.declared.refusal.Refusal.{Refusal}
use Rattle.arithmetic.specs.declared.refusal.Refusal.TheVariants.{SizeOutOfRange, MatrixLength, BufferLength, IndexOutOfRange, NumbersLength, ListLength}
use Rattle.matrix.specs.Matrix.{Square, at}
use Rattle.matrix.proofs.CellLaws.{cell_lt}
use Rattle.matrix.specs.Checks.{check_size, check_matrix, check_buffer, check_index, check_indices, check_finite, check_symmetric, check_numbers, check_distinct, check_list, out_of_range, not_finite, same_bits, unsymmetric, first_same, came_before, first_repeated, Distinct, AllFinite}
use Rattle.matrix.specs.Plain.{AllBelow}
use Rattle.arithmetic.proofs.Cases.{same_tests}

-- ---- a loop that searches up to n, at i: what it still has to find
pub search_start : (bad : ℕ → Bool) (n : ℕ) → first_from bad 0 n ≡ first_from bad 0 (n - 0)
search_start bad n = rw sub-zero

module _ (bad : ℕ → Bool) (i n : ℕ) where
  pub search_found : i < n → bad i ≡ true → first_from bad i (n - i) ≡ i
  unfolding first_from
  search_found h e = let s : n - i ≡ suc (n - (i + 1)) = omega arith in rw (s, e)

  pub search_turn : i < n → bad i ≡ false → first_from bad i (n - i) ≡ first_from bad (i + 1) (n - (i + 1))
  unfolding first_from
  search_turn h e = let s : n - i ≡ suc (n - (i + 1)) = omega arith in rw (s, e, add-one)

  pub search_end : i ≤ n → n ≤ i → first_from bad i (n - i) ≡ n
  unfolding first_from
  search_end h k = let s : n - i ≡ 0 = omega arith in let e : i ≡ n = omega arith in rw (s, e)

-- ---- a check that looks for its first bad element, by the library's `position`
abbrev pub refused_at : (ℕ → Refusal) → Option ℕ → Outcome
refused_at refusal None = Ok tt
refused_at refusal (Some k) = Err (refusal k)

pub first_refused : {A : Type 0} (bad : A → Bool) (xs : List A) (d : A) (refusal : ℕ → Refusal)
    → let k = first (λ i. bad (get_or xs i d)) (length xs) in refused_at refusal (position bad xs) ≡ refuse (ltb k (length xs)) (refusal k)
first_refused bad xs d refusal =
    let k = first (λ i. bad (get_or xs i d)) (length xs) in
    let F = first-is (λ i. bad (get_or xs i d)) (length xs) in
    let is : position_or_len bad xs ≡ k = position_or_len_is bad xs k d F.most (λ i h. F.good i (omega arith) h) F.here in
    elim (dec_lt k (length xs)) [
      | yes h ↦ rw (is, lt-ltb k (length xs) h)
      | no h ↦ rw (is, le-ltb k (length xs) (omega arith))
    ]

-- ---- every position is good where the first bad one is at the end
pub none_bad : (bad : ℕ → Bool) (n : ℕ) (good : ℕ → Bool) → ((i : ℕ) → bad i ≡ not (good i)) → all 0 n good ≡ leb n (first bad n)
none_bad bad n good e = same_tests (all 0 n good) (leb n (first bad n))
    (λ h. le-leb n (first bad n) (elim (dec_lt (first bad n) n) [
      | yes p ↦ absurd (true≢false (sym ((first-is bad n).here p) ∙ e (first bad n) ∙ ap not (all-each 0 n good (omega arith) h (first bad n) (omega arith) p)))
      | no p ↦ omega arith
    ]))
    (λ h. all_true 0 n good (omega arith) (λ i p q. not-false (good i) (sym (e i) ∙ (first-is bad n).good i p (omega (arith, leb-true n (first bad n) h)))))

pub end-is_first_bad : (bad : ℕ → Bool) (n : ℕ) (good : ℕ → Bool) → ((i : ℕ) → bad i ≡ not (good i)) → eqb (first bad n) n ≡ all 0 n good
end-is_first_bad bad n good e =
    let f = first bad n in
    same_tests (eqb f n) (leb n f) (λ h. le-leb n f (omega (arith, eqb-true f n h))) (λ h. eq-eqb f n (omega (arith, leb-true n f h, (first-is bad n).most)))
    ∙ sym (none_bad bad n good e)

-- ---- one check of a chain, in code: it is run, its answer asked whether it is complete, and returned where it is not
pub record Accepted (o : Outcome) : Type 0 where
  pub is : complete o ≡ true

-- .. and its refusal handed on by `?`
pub passed : {o r : Outcome} → r ≡ o → r ≡ Ok tt → Accepted o
passed runs h = record { is = ap complete (sym runs ∙ h) }

module _ {o r : Outcome} {b : Bool} (runs : r ≡ o) (asks : b ≡ complete r) where
  pub complete-accepted : b ≡ true → Accepted o
  complete-accepted h = record { is = sym (asks ∙ ap complete runs) ∙ h }

  pub not_complete : b ≡ false → complete o ≡ false
  not_complete h = sym (asks ∙ ap complete runs) ∙ h

  pub accepted : not b ≡ false → Accepted o
  accepted h = complete-accepted (not-false b h)

  pub not_accepted : not b ≡ true → complete o ≡ false
  not_accepted h = not_complete (not-true b h)

  pub refused : (rest : Outcome) → not b ≡ true → r ≡ (o then rest)
  refused rest h = runs ∙ stops o rest (not_accepted h)
    where
      stops : (o rest : Outcome) → complete o ≡ false → o ≡ (o then rest)
      stops (Ok _) rest h = absurd (true≢false h)
      stops (Err refusal) rest h = refl

-- two checks of a chain, each run
pub links : {o rest p q r : Outcome} → r ≡ (p then q) → p ≡ o → q ≡ rest → r ≡ (o then rest)
links e f g = e ∙ rw (f, g)

-- the rest of a chain decides where its first check is accepted
pub goes_on : {o rest s : Outcome} → Accepted o → s ≡ rest → s ≡ (o then rest)
goes_on {o = Ok _} A e = e
goes_on {o = Err refusal} A e = absurd (true≢false (sym A.is))

-- each check of a chain is accepted where the chain is
pub both_accepted : (o rest : Outcome) → Accepted (o then rest) → Accepted o × Accepted rest
both_accepted o rest h = let t = then_complete o rest h.is in (record { is = t.0 }, record { is = t.1 })

-- what holds of each check holds of the chain
pub then_keeps : (P : Outcome → Type 0) (o rest : Outcome) → P o → (Accepted o → P rest) → P (o then rest)
then_keeps P (Ok _) rest p q = q (record { is = refl })
then_keeps P (Err refusal) rest p q = p

pub refuse-keeps : (P : Outcome → Type 0) (bad : Bool) (refusal : Refusal) → P (Ok tt) → (bad ≡ true → P (Err refusal)) → P (refuse bad refusal)
refuse-keeps P true refusal p q = q refl
refuse-keeps P false refusal p q = p

-- ---- what passes a check
pub good_accepted : (bad : Bool) (refusal : Refusal) → bad ≡ false → Accepted (refuse bad refusal)
good_accepted bad refusal e = record { is = rw e refl }

pub then_accepted : {o rest : Outcome} → Accepted o → Accepted rest → Accepted (o then rest)
then_accepted {o} {rest} A B = subst Accepted (goes_on A refl) B

pub size_passes : (n : ℕ) → 1 ≤ n → n ≤ 48 → Accepted (check_size n)
size_passes n p q = good_accepted (eqb n 0 || ltb 48 n) SizeOutOfRange (rw (ne_eqb n 0 (λ e. omega arith), le-ltb 48 n q) refl)

-- a length, whatever its refusal
pub length-passes : (wanted len : ℕ) (refusal : Refusal) → len ≡ wanted → Accepted (refuse (not (eqb len wanted)) refusal)
length-passes wanted len refusal e = good_accepted (not (eqb len wanted)) refusal (ap not (eq-eqb len wanted e))

-- a check that searches passes exactly where no position is bad
module _ (bad : ℕ → Bool) (n : ℕ) (refusal : Refusal) where
  pub none_found : Accepted (refuse (ltb (first bad n) n) refusal) → (i : ℕ) → i < n → bad i ≡ false
  none_found h i l =
      let q : n ≤ first bad n = ltb-false (first bad n) n (refuse-complete (ltb (first bad n) n) refusal h.is) in
      (first-is bad n).good i (omega arith) (omega arith)

  pub none_passes : ((i : ℕ) → i < n → bad i ≡ false) → Accepted (refuse (ltb (first bad n) n) refusal)
  none_passes h = good_accepted _ refusal (le-ltb (first bad n) n (omega (arith, first-none bad n h)))

-- ---- what an accepted check says
pub size_accepted : (n : ℕ) → Accepted (check_size n) → (0 < n) × (n ≤ 48)
size_accepted n h =
    let t : (eqb n 0 || ltb 48 n) ≡ false = refuse-complete (eqb n 0 || ltb 48 n) SizeOutOfRange h.is in
    (omega (arith, eqb-false n 0 (or_1 (eqb n 0) (ltb 48 n) t)), ltb-false 48 n (or_2 (eqb n 0) (ltb 48 n) t))

pub matrix-accepted : (n len : ℕ) → Accepted (check_matrix n len) → len ≡ n * n
matrix-accepted n len h = eqb-true len (n * n) (not-false (eqb len (n * n)) (refuse-complete (not (eqb len (n * n))) MatrixLength h.is))

pub buffer_accepted : (wanted len : ℕ) → Accepted (check_buffer wanted len) → len ≡ wanted
buffer_accepted wanted len h = eqb-true len wanted (not-false (eqb len wanted) (refuse-complete (not (eqb len wanted)) BufferLength h.is))

pub index_accepted : (n position index : ℕ) → Accepted (check_index n position index) → index < n
index_accepted n position index h = leb-false n index (refuse-complete (leb n index) (IndexOutOfRange position) h.is)

pub indices_accepted : (n : ℕ) (idxs : List ℕ) → Accepted (check_indices n idxs) → AllBelow n idxs
indices_accepted n idxs h k l = leb-false n (get_or idxs k 0) (none_found (out_of_range n idxs) (length idxs) _ h k l)

pub finite_accepted : (n : ℕ) (m : List Float) → Accepted (check_finite n m) → (k : ℕ) → k < length m → finite (get_or m k nan) ≡ true
finite_accepted n m h k l = not-false (finite (get_or m k nan)) (none_found (not_finite m) (length m) _ h k l)

pub entries-accepted : (n : ℕ) (m : List Float) → Square n m → Accepted (check_finite n m) → AllFinite n m
entries-accepted n m s h i j p q = finite_accepted n m h (i * n + j) (omega (arith, s.len, cell_lt n i j p q))

-- ---- row i has other bits at column j than row j at column i
abbrev pub mismatch : ℕ → List Float → ℕ → ℕ → Bool
mismatch n m i j = not (same_bits (at n m i j) (at n m j i))

pub unsymmetric-at : (n : ℕ) (m : List Float) (i j : ℕ) → j < n → unsymmetric n m (i * n + j) ≡ (ltb i j && mismatch n m i j)
unsymmetric-at n m i j h = rw (digits_div i h, digits_mod i h)

-- doubles of the same bits are the same
same_bits_lem : (x y : Float) → T (fits binary64 x) → T (fits binary64 y) → same_bits x y ≡ true → x ≡ y
same_bits_lem x y p q h = sym (of_bits-to_bits binary64 x p) ∙ ap (of_bits binary64) (eqb-true (to_bits binary64 x) (to_bits binary64 y) h) ∙ of_bits-to_bits binary64 y q

module _ (n : ℕ) (m : List Float) (doubles : (i j : ℕ) → i < n → j < n → T (fits binary64 (at n m i j))) (h : Accepted (check_symmetric n m)) where
  above : (i j : ℕ) → i < j → j < n → at n m i j ≡ at n m j i
  above i j l q =
      let p : i < n = omega arith in
      let g : ltb i j && mismatch n m i j ≡ false = sym (unsymmetric-at n m i j q) ∙ none_found (unsymmetric n m) (n * n) _ h (i * n + j) (cell_lt n i j p q) in
      same_bits_lem (at n m i j) (at n m j i) (doubles i j p q) (doubles j i q p) (not-false (same_bits (at n m i j) (at n m j i)) (rw (lt-ltb i j l) at g))

  pub symmetric-accepted : (i j : ℕ) → i < n → j < n → at n m i j ≡ at n m j i
  symmetric-accepted i j p q = elim (dec_lt i j) [
    | yes l ↦ above i j l q
    | no l ↦ elim (ℕ_discrete i j) [ yes e ↦ rw e | no d ↦ sym (above j i (omega arith) p) ]
  ]

pub list_accepted : (wanted len : ℕ) → Accepted (check_list wanted len) → len ≡ wanted
list_accepted wanted len h = eqb-true len wanted (not-false (eqb len wanted) (refuse-complete (not (eqb len wanted)) ListLength h.is))

-- ---- contract numbers
pub numbers-accepted : (n len : ℕ) → Accepted (check_numbers n len) → len ≡ n
numbers-accepted n len h = eqb-true len n (not-false (eqb len n) (refuse-complete (not (eqb len n)) NumbersLength h.is))

module _ (numbers : List ℕ) where
  -- where the number at k didn't come before, none before k is equal to it
  new_number : (i k : ℕ) → came_before numbers k ≡ false → i < k → get_or numbers i 0 ≡ get_or numbers k 0 → ⊥
  new_number i k h l =
      let q : k ≤ first_same numbers k = ltb-false (first_same numbers k) k h in
      eqb-false (get_or numbers i 0) (get_or numbers k 0) ((first-is (λ j. eqb (get_or numbers j 0) (get_or numbers k 0)) k).good i (omega arith) (omega arith))

  pub distinct-accepted : Accepted (check_distinct numbers) → Distinct numbers
  distinct-accepted h = record {
    once = λ i k p q e. elim (dec_lt i k) [
      | yes l ↦ absurd (new_number i k (fresh k q) l e)
      | no l ↦ elim (dec_lt k i) [ yes m ↦ absurd (new_number k i (fresh i p) m (sym e)) | no m ↦ omega arith ]
    ];
  }
    where
      fresh : (k : ℕ) → k < length numbers → came_before numbers k ≡ false
      fresh = none_found (came_before numbers) (length numbers) _ h

  pub distinct-passes : Distinct numbers → Accepted (check_distinct numbers)
  distinct-passes D = none_passes (came_before numbers) (length numbers) _ fresh
    where
      differ : (k : ℕ) → k < length numbers → (i : ℕ) → i < k → eqb (get_or numbers i 0) (get_or numbers k 0) ≡ false
      differ k q i l = ne_eqb (get_or numbers i 0) (get_or numbers k 0) (λ e. omega (arith, D.once i k (omega arith) q e))

      fresh : (k : ℕ) → k < length numbers → came_before numbers k ≡ false
      fresh k q = rw (first-none (λ i. eqb (get_or numbers i 0) (get_or numbers k 0)) k (differ k q), le-ltb k k (omega arith))

  -- 13's place: its number stands before it, and before it no number stands twice
  pub repeated_first : first_repeated numbers < length numbers
      → (first_same numbers (first_repeated numbers) < first_repeated numbers)
      × (get_or numbers (first_same numbers (first_repeated numbers)) 0 ≡ get_or numbers (first_repeated numbers) 0)
      × ((i k : ℕ) → i < k → k < first_repeated numbers → get_or numbers i 0 ≡ get_or numbers k 0 → ⊥)
  repeated_first h =
      let f = first_repeated numbers in
      let F = first-is (came_before numbers) (length numbers) in
      let g = first_same numbers f in
      let l : g < f = ltb-true g f (F.here h) in
      (l, eqb-true (get_or numbers g 0) (get_or numbers f 0) ((first-is (λ i. eqb (get_or numbers i 0) (get_or numbers f 0)) f).here l), λ i k p q. new_number i k (F.good k (omega arith) q) p)
