-- Contract numbers are read back from their bytes, and pass 12 and 13 there, also where they are reloaded.
use mathlib.Core.Path.{◌≡◌, refl, ap, ◌∙◌}
use mathlib.Core.List.{List, [], ◌∷◌}
use Prim.Native.Nat.{ℕ, zero, suc, ◌+◌, ◌*◌, ◌/◌, ◌<◌}
use native.Mathlib.Omega.{arith}
use lib.ListN.{length, get_or, take, drop, length-append}
use lib.Seq.{take_at, drop-append-add, ext_get_or}
use Rattle.arithmetic.specs.declared.refusal.Refusal.TheVariants.{NumbersLength}
use Rattle.matrix.specs.Checks.{check_distinct, Distinct}
use Rattle.matrix.specs.Plain.{AllBelow}
use Rattle.matrix.proofs.CheckLaws.{Accepted, distinct-passes, then_accepted, length-passes}
use Rattle.matrix.proofs.TableLaws.{get_or-table}
use Rattle.methods.specs.Reloading.{LoadOrder}
use Rattle.load_order.specs.Numbered.{reload_numbers}
use Rattle.load_order.proofs.Numbered.{length-reloaded}
use Rattle.encoding.specs.Bytes.{bytes, numbers}
use Rattle.encoding.specs.Checks.{number_byte_checks}
use Rattle.encoding.proofs.Numbers.{number-bytes}
use Rattle.encoding.proofs.ByteLaws.{length-bytes}
use Rattle.encoding.proofs.ContractNumbers.{numbers-length, numbers-at}
use Rattle.whole_calls.specs.NumberBytes.{number_bytes}

pub length-numbers : (ks : List ℕ) → length (number_bytes ks) ≡ 4 * length ks
unfolding number_bytes
length-numbers [] = refl
length-numbers (k ∷ ks) = length-append (bytes 4 k) (number_bytes ks) ∙ omega (arith, length-bytes 4 k, length-numbers ks)

-- the bytes of one number
number_at : (ks : List ℕ) (i : ℕ) → i < length ks → take 4 (drop (4 * i) (number_bytes ks)) ≡ bytes 4 (get_or ks i 0)
unfolding number_bytes
number_at [] i h = absurd (omega arith)
number_at (k ∷ ks) zero h = take_at (bytes 4 k) (number_bytes ks) 4 (length-bytes 4 k)
number_at (k ∷ ks) (suc i) h =
    let e : 4 * suc i ≡ length (bytes 4 k) + 4 * i = omega (arith, length-bytes 4 k) in
    rw (e, drop-append-add (bytes 4 k) (number_bytes ks) (4 * i)) (number_at ks i (omega arith))

pub numbers-content : (ks : List ℕ) → AllBelow 0x1_0000_0000 ks → numbers (number_bytes ks) ≡ ks
numbers-content ks h = ext_get_or 0 (numbers (number_bytes ks)) ks size at
  where
    fours : length (number_bytes ks) / 4 ≡ length ks
    fours = omega (arith, length-numbers ks)

    size : length (numbers (number_bytes ks)) ≡ length ks
    size = numbers-length (number_bytes ks) ∙ fours

    at : (i : ℕ) → i < length (numbers (number_bytes ks)) → get_or (numbers (number_bytes ks)) i 0 ≡ get_or ks i 0
    at i l =
        let q : i < length ks = omega (arith, size) in
        numbers-at (number_bytes ks) i (omega (arith, fours)) ∙ rw (number_at ks i q) (number-bytes 4 (get_or ks i 0) (h i q))

-- ---- a number for each of n contracts, no two equal
module _ (n : ℕ) (ks : List ℕ) (e : length ks ≡ n) where
  pub number-bytes_length : length (number_bytes ks) ≡ 4 * n
  number-bytes_length = length-numbers ks ∙ ap (λ (x : ℕ). 4 * x) e

  pub number-bytes_pass : AllBelow 0x1_0000_0000 ks → Distinct ks → Accepted (number_byte_checks n (number_bytes ks))
  number-bytes_pass below D =
      let distinct : Accepted (check_distinct (numbers (number_bytes ks))) = rw (numbers-content ks below) (distinct-passes ks D) in
      then_accepted (length-passes (4 * n) (length (number_bytes ks)) NumbersLength number-bytes_length) distinct

  pub reloaded_below : (s : List ℕ) → AllBelow 0x1_0000_0000 ks → LoadOrder n s → AllBelow 0x1_0000_0000 (reload_numbers n s ks)
  reloaded_below s below L i h =
      let q : i < n = omega (arith, length-reloaded n s ks) in
      rw (get_or-table n (λ k. get_or ks (get_or s k 0) 0) i 0 q) (below (get_or s i 0) (omega (arith, L.below i q)))
