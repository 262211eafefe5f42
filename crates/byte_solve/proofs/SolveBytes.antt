-- Solving on bytes: what its operands are, that its y can be written, and what is then answered.
use mathlib.Core.Path.{◌≡◌, refl, ap, ◌∙◌}
use mathlib.Core.List.{List}
use mathlib.Core.Bool.{true, false, not}
use Prim.Native.Nat.{ℕ, ◌*◌, ◌/◌, ◌≤◌, ◌<◌}
use native.Mathlib.Omega.{arith}
use lib.ListN.{length, get_or}
use lib.Ieee.{Float, nan}
use lib.Ieee.Scale.{finite}
use Rattle.arithmetic.specs.Outcome.{complete}
use Rattle.arithmetic.specs.Outcome.{Outcome}
use Rattle.matrix.specs.Matrix.{at}
use Rattle.matrix.specs.Plain.{AllBelow}
use Rattle.matrix.proofs.CheckLaws.{Accepted, refused, goes_on, both_accepted, size_accepted, buffer_accepted, list_accepted}
use Rattle.solve.specs.Checks.{check_divisors}
use Rattle.solve.specs.LowerPart.{SameLower}
use Rattle.solve.specs.Substitution.{SolveCall, Solvable, solve_call_of, solve, content_checks}
use Rattle.solve.proofs.Accepted.{order-accepted, lower-accepted}
use Rattle.solve.proofs.FiniteRows.{solve-length, solve-finite}
use Rattle.solve.proofs.LowerPart.{solve-lower, divisors-lower}
use Rattle.encoding.specs.Bytes.{doubles, double_bytes}
use Rattle.encoding.specs.Writing.{over, EachFinite}
use Rattle.encoding.proofs.ByteLaws.{length-content}
use Rattle.encoding.proofs.Checked.{entries-length, each_finite}
use Rattle.encoding.proofs.Doubles.{doubles-length}
use Rattle.encoding.proofs.Over.{over-all}
use Rattle.byte_solve.specs.Solve.{solve_bytes_call_of, length_byte_checks, pattern_checks, solve_byte_checks, solve_bytes_call}

-- ---- the operands
pub record Sized (n l y p b : ℕ) : Type 0 where
  pub small : n ≤ 48
  pub l_is : l ≡ 8 * (n * n)
  pub y_is : y ≡ 8 * n
  pub p_is : p ≡ n
  pub b_is : b ≡ 8 * n

pub sized : (n l y p b : ℕ) → Accepted (length_byte_checks n l y p b) → Sized n l y p b
sized n l y p b h =
    let f = both_accepted _ _ h in
    let r = both_accepted _ _ f.0 in
    let c = both_accepted _ _ r.0 in
    let m = both_accepted _ _ c.0 in
    record { small = (size_accepted n m.0).1; l_is = entries-length n l m.1; y_is = buffer_accepted _ _ c.1; p_is = list_accepted _ _ r.1; b_is = list_accepted _ _ f.1 }

pub record Readable (n : ℕ) (l p b : List ℕ) : Type 0 where
  pub below : AllBelow n p
  pub lower : (i j : ℕ) → i < n → j ≤ i → finite (at n (doubles l) i j) ≡ true
  pub right : (k : ℕ) → k < length b / 8 → finite (get_or (doubles b) k nan) ≡ true

-- ---- the call, refused by one check after the other
module _ (n : ℕ) (l p b y : List ℕ) where
  abbrev lengths : Outcome
  lengths = length_byte_checks n (length l) (length y) (length p) (length b)

  abbrev patterns : Outcome
  patterns = pattern_checks n l p b

  by_checks : (o : Outcome) → o ≡ solve_byte_checks n l (length y) p b → complete o ≡ false → solve_bytes_call_of o y ≡ solve_bytes_call n l p b y
  by_checks o e h = rw (← e, h)

  pub refused-lengths : (o : Outcome) → o ≡ lengths → complete lengths ≡ false → solve_bytes_call_of o y ≡ solve_bytes_call n l p b y
  refused-lengths o e h = by_checks o (e ∙ refused refl refl _ (ap not h)) (rw e h)

  pub refused-patterns : Accepted lengths → (o : Outcome) → o ≡ patterns → complete patterns ≡ false → solve_bytes_call_of o y ≡ solve_bytes_call n l p b y
  refused-patterns L o e h = by_checks o (goes_on L (e ∙ refused refl refl _ (ap not h))) (rw e h)

-- ---- those passed
pub record Passed (n : ℕ) (l p b y : List ℕ) : Type 0 where
  pub lengths_pass : Accepted (lengths n l p b y)
  pub patterns_pass : Accepted (patterns n l p b y)

module _ {n : ℕ} {l p b y : List ℕ} (P : Passed n l p b y) where
  pub sizes : Sized n (length l) (length y) (length p) (length b)
  sizes = sized n _ _ _ _ P.lengths_pass

  pub readable : Readable n l p b
  readable =
      let f = both_accepted _ _ P.patterns_pass in
      let r = both_accepted _ _ f.0 in
      record { below = (order-accepted n p r.0).0; lower = lower-accepted n (doubles l) r.1; right = each_finite 1 b f.1 }

  -- L's lower part and b, read
  module _ {l2 b2 : List Float} (S : SameLower n l2 (doubles l)) (reads : b2 ≡ doubles b) where
    pub solvable : Solvable n l2 p b2
    solvable = record {
      square = record { len = S.len ∙ doubles-length l ∙ omega (arith, sizes.l_is); small = sizes.small };
      p_is = sizes.p_is;
      below = readable.below;
      b_is = ap length reads ∙ doubles-length b ∙ omega (arith, sizes.b_is);
    }

    checked : (o : Outcome) → o ≡ check_divisors n l2 → o ≡ solve_byte_checks n l (length y) p b
    checked o e = goes_on P.lengths_pass (goes_on P.patterns_pass (e ∙ divisors-lower n l2 (doubles l) S))

    pub refused-divisors : (o : Outcome) → o ≡ check_divisors n l2 → complete (check_divisors n l2) ≡ false → solve_bytes_call_of o y ≡ solve_bytes_call n l p b y
    refused-divisors o e h = by_checks n l p b y o (checked o e) (rw e h)

    -- .. and solved
    module _ {o : Outcome} {y2 : List Float} (calls : solve_call_of o y2 ≡ solve n l2 p b2) where
      these : solve_call_of o y2 ≡ solve n (doubles l) p (doubles b)
      these = calls ∙ solve-lower n l2 (doubles l) S p b2 ∙ ap (solve n (doubles l) p) reads

      y_is : y2 ≡ (solve n (doubles l) p (doubles b)).y
      y_is = ap (λ (c : SolveCall). c.y) these

      len : length y2 ≡ n
      len = ap length y_is ∙ solve-length n (doubles l) p (doubles b)

      pub writable : (length y2 ≡ n) × EachFinite y2
      writable = (len, λ k q. ap (λ (v : List Float). finite (get_or v k nan)) y_is ∙ solve-finite n (doubles l) p (doubles b) k (omega (arith, len)))

      pub answered : Accepted (check_divisors n l2) → (y' : List ℕ) → y' ≡ over y 0 (double_bytes y2) → solve_bytes_call_of o y' ≡ solve_bytes_call n l p b y
      answered D y' w =
          let e : y' ≡ double_bytes y2 = w ∙ over-all y (double_bytes y2) (length-content y2 ∙ omega (arith, len, sizes.y_is)) in
          rw (← checked _ refl, D.is, e) (ap (λ (c : SolveCall). solve_bytes_call_of c.outcome (double_bytes c.y)) these)
