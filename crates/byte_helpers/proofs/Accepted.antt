-- What the operands of an accepted call on bytes are.
use mathlib.Core.Path.{◌≡◌}
use mathlib.Core.List.{List}
use mathlib.Core.Bool.{true}
use Prim.Native.Nat.{ℕ, ◌*◌, ◌/◌, ◌≤◌, ◌<◌}
use native.Mathlib.Omega.{arith}
use borrow.Author.Tests.{eqb-false}
use lib.ListN.{length, get_or}
use lib.Dec.{eqb}
use lib.Ieee.{nan}
use lib.Ieee.Scale.{finite}
use Rattle.arithmetic.proofs.OutcomeLaws.{refuse-complete}
use Rattle.arithmetic.specs.declared.refusal.Refusal.TheVariants.{SizeOutOfRange}
use Rattle.matrix.specs.Plain.{AllBelow}
use Rattle.matrix.specs.Checks.{check_some}
use Rattle.matrix.proofs.CheckLaws.{Accepted, both_accepted, size_accepted, buffer_accepted, index_accepted, indices_accepted}
use Rattle.encoding.specs.Bytes.{doubles}
use Rattle.encoding.proofs.Checked.{whole-accepted, entries-length, each_finite}
use Rattle.byte_helpers.specs.Helpers.{swap_byte_checks, search_byte_checks, permutation_byte_checks, diagonal_byte_checks}

pub swap-accepted : (n len idx1 idx2 : ℕ) → Accepted (swap_byte_checks n len idx1 idx2) → (len ≡ 8 * (n * n)) × (n ≤ 48) × (idx1 < n) × (idx2 < n)
swap-accepted n len idx1 idx2 h =
    let j = both_accepted _ _ h in
    let i = both_accepted _ _ j.0 in
    let m = both_accepted _ _ i.0 in
    (entries-length n len m.1, (size_accepted n m.0).1, index_accepted n 0 idx1 i.1, index_accepted n 1 idx2 j.1)

-- finite, as far as there are doubles
abbrev FiniteBytes : List ℕ → Type 0
FiniteBytes b = (k : ℕ) → k < length b / 8 → finite (get_or (doubles b) k nan) ≡ true

pub search_accepted : (c : List ℕ) → Accepted (search_byte_checks c) → (0 < length c / 8) × FiniteBytes c
search_accepted c h =
    let f = both_accepted _ _ h in
    let w = both_accepted _ _ f.0 in
    (omega (arith, whole-accepted (length c) w.1, some w.0), each_finite 1 c f.1)
  where
    some : Accepted (check_some (length c)) → 0 < length c
    some A = omega (arith, eqb-false (length c) 0 (refuse-complete (eqb (length c) 0) SizeOutOfRange A.is))

pub permutation-accepted : (idxs : List ℕ) (len : ℕ) → Accepted (permutation_byte_checks idxs len) → ((len ≡ 8 * (length idxs * length idxs)) × (length idxs ≤ 48)) × AllBelow (length idxs) idxs
permutation-accepted idxs len h =
    let i = both_accepted _ _ h in
    let s = both_accepted _ _ i.0 in
    ((buffer_accepted _ _ s.1, (size_accepted _ s.0).1), indices_accepted _ idxs i.1)

pub diagonal-accepted : (arr : List ℕ) (len : ℕ) → Accepted (diagonal_byte_checks arr len) → let n = length arr / 8 in ((length arr ≡ 8 * n) × (len ≡ 8 * (n * n)) × (n ≤ 48)) × FiniteBytes arr
diagonal-accepted arr len h =
    let f = both_accepted _ _ h in
    let b = both_accepted _ _ f.0 in
    let w = both_accepted _ _ b.0 in
    ((omega (arith, whole-accepted (length arr) w.1), buffer_accepted _ _ b.1, (size_accepted _ w.0).1), each_finite 1 arr f.1)
