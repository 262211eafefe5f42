-- The inexact flag: it is whether anything was cut off (`cut_off`), and no double's square is the operand exactly where it is true
-- (`inexact-roots`).
use mathlib.Core.Path.{◌≡◌, refl, sym, ap, ◌∙◌, subst}
use mathlib.Core.Bool.{Bool, true, false, not, ◌&&◌, false≢true, true≢false}
use mathlib.Core.Logic.{inl, inr}
use Rattle.std.specs.Prelude.{Ok, Err}
use Prim.Native.Nat.{ℕ, zero, suc, ◌+◌, ◌*◌, ◌/◌, ◌%◌, ◌^◌, ◌≤◌, ◌<◌}
use native.Mathlib.Omega.{arith}
use native.Mathlib.Nat.{le_antisymm, lt_of_mul-lt-mul_right, mul_assoc, mul_comm, pow-suc}
use borrow.Author.Tests.{ltb-true, ltb-false, eqb-true, not-false, eq-eqb, ne_eqb}
use lib.Dec.{T, ltb, eqb, lt→ltb}
use lib.Ieee.{Float, nan, inf, fin, binary64, fits, of_bits, lt}
use lib.Ieee.Bits.{is_true}
use lib.Ieee.Scale.{finite}
use lib.Ieee.Positive.{positive}
use Rattle.arithmetic.specs.Double.{plus_zero}
use Rattle.arithmetic.specs.Outcome.{Outcome, complete, refuse, answer, ended, value_or}
use Rattle.arithmetic.specs.Sqrt.{magnitude, sqrt, inexact, flagged, sqrt_checks, sqrt_call, no_root}
use Rattle.arithmetic.specs.Nearest.{NotNegative}
use Rattle.arithmetic.specs.Inexact.{ExactRoot, handed_back, InexactTheorem, CutOffTheorem}
use Rattle.arithmetic.specs.declared.refusal.Refusal.TheVariants.{NotFinite, StoredNotFinite}
use Rattle.arithmetic.specs.declared.sqrt.Rounded.{Rounded}
use Rattle.arithmetic.specs.InfinitelyPrecise.{WholeRoot}
use Rattle.arithmetic.proofs.WholeRoot.{less_root}
use Rattle.arithmetic.proofs.Operand.{Zero, zero_of, Negative, negative_inf, negative_of, fails}
use Rattle.arithmetic.proofs.OutcomeLaws.{then_complete, refuse-complete}
use Rattle.arithmetic.proofs.Stages.{zero_root, odd_cut}
use Rattle.arithmetic.proofs.Nearest.{handed, result-magnitude, kind, zero_magnitude, apart, unsigned_not_below, sqrt-fits, sqrt-nearest}

-- the square of the root is the operand
abbrev squares : Float → Bool
squares x = eqb (magnitude (sqrt x) * magnitude (sqrt x)) (magnitude x * 2 ^ 1074)

inexact_is : (x : Float) → inexact x ≡ (positive x && not (squares x))
unfolding inexact
inexact_is x = refl

positive_inexact : (x : Float) → T (positive x) → inexact x ≡ not (squares x)
positive_inexact x p = inexact_is x ∙ rw (is_true (positive x) p)

-- twice the half of the whole part, rounded up, at its scale
doubled : (r s : ℕ) → (r + 1) / 2 * 2 ^ suc s ≡ 2 * ((r + 1) / 2) * 2 ^ s
doubled r s = ap (λ (n : ℕ). (r + 1) / 2 * n) (pow-suc 2 s) ∙ sym (mul_assoc ((r + 1) / 2) (2 ^ s) 2) ∙ mul_comm ((r + 1) / 2 * 2 ^ s) 2 ∙ sym (mul_assoc 2 ((r + 1) / 2) (2 ^ s))

even_doubled : (r : ℕ) → r % 2 ≡ 0 → 2 * ((r + 1) / 2) ≡ r
even_doubled r h = omega arith

-- M units are what the root of N rounds to: their square is N exactly where nothing was cut off
module _ (N r s M : ℕ) (cut : Bool) (under : r * 2 ^ s * (r * 2 ^ s) ≤ N) (over : N < (r + 1) * 2 ^ s * ((r + 1) * 2 ^ s)) (flag : cut ≡ ltb (r * 2 ^ s * (r * 2 ^ s)) N)
    (even : cut ≡ false → r % 2 ≡ 0) (is : M ≡ 2 * ((r + 1) / 2) * 2 ^ s) where
  changed : r * 2 ^ s * (r * 2 ^ s) < N → M * M ≡ N → ⊥
  changed l e =
      let k : ℕ = 2 * ((r + 1) / 2) in
      let sq : k * 2 ^ s * (k * 2 ^ s) ≡ N = ap (λ (m : ℕ). m * m) (sym is) ∙ e in
      let a : r * 2 ^ s < k * 2 ^ s = less_root (subst (λ (n : ℕ). r * 2 ^ s * (r * 2 ^ s) < n) (sym sq) l) in
      let b : k * 2 ^ s < (r + 1) * 2 ^ s = less_root (subst (λ (n : ℕ). n < (r + 1) * 2 ^ s * ((r + 1) * 2 ^ s)) (sym sq) over) in
      omega (arith, lt_of_mul-lt-mul_right (2 ^ s) {m = r} {n = k} a, lt_of_mul-lt-mul_right (2 ^ s) {m = k} {n = r + 1} b)

  kept : cut ≡ false → N ≤ r * 2 ^ s * (r * 2 ^ s) → M * M ≡ N
  kept e l = ap (λ (m : ℕ). m * m) (is ∙ ap (λ (m : ℕ). m * 2 ^ s) (even_doubled r (even e))) ∙ le_antisymm under l

  pub cut-says : cut ≡ not (eqb (M * M) N)
  cut-says = go cut refl flag
    where
      go : (c : Bool) → cut ≡ c → c ≡ ltb (r * 2 ^ s * (r * 2 ^ s)) N → c ≡ not (eqb (M * M) N)
      go true k e = sym (ap not {x = eqb (M * M) N} (ne_eqb (M * M) N (changed (ltb-true _ _ (sym e)))))
      go false k e = sym (ap not {x = eqb (M * M) N} (eq-eqb (M * M) N (kept k (ltb-false _ _ (sym e)))))

even_uncut : (x : Float) (r : ℕ) (cut : Bool) (s : ℕ) → T (fits binary64 x) → T (positive x) → WholeRoot x r cut s → cut ≡ false → r % 2 ≡ 0
even_uncut x r cut s f p R e = go (r % 2) refl
  where
    go : (b : ℕ) → r % 2 ≡ b → r % 2 ≡ 0
    go zero z = z
    go (suc zero) z = absurd (fails (sym R.flag ∙ e) (lt→ltb _ _ (odd_cut x f p r cut s R z)))
    go (suc (suc b)) z = omega arith

pub cut_off : CutOffTheorem
cut_off x r cut s f p R =
    let H = handed x f p in
    let W = H.is in (
      even_uncut x r cut s f p R,
      (H.only r cut s R).1
          ∙ cut-says (magnitude x * 2 ^ 1074) H.whole H.scale (magnitude (sqrt x)) H.cut W.under W.over W.flag (even_uncut x H.whole H.cut H.scale f p W) (result-magnitude x f p ∙ doubled H.whole H.scale)
          ∙ sym (positive_inexact x p),
    )

-- ---- operands that no rounding meets
pub zero_not_positive : {x : Float} → Zero x → positive x ≡ false
zero_not_positive (zero_of true e) = refl
zero_not_positive (zero_of false e) = refl

pub negative_not_positive : {x : Float} → Negative x → positive x ≡ false
negative_not_positive negative_inf = refl
negative_not_positive (negative_of m e) = refl

pub other_not_positive : (x : Float) → lt x plus_zero ≡ false → lt x (inf false) ≡ false → positive x ≡ false
unfolding lt of_bits
other_not_positive nan h k = refl
other_not_positive (inf s) h k = refl
other_not_positive (fin s m e) h k = absurd (fails k tt)

pub exact-of : (x : Float) → positive x ≡ false → inexact x ≡ false
exact-of x h = inexact_is x ∙ rw h

pub unrounded : (x v : Float) → v ≡ sqrt x → positive x ≡ false → record { value = v; inexact = false } ≡ flagged x
unrounded x v e h = rw (e, exact-of x h)

-- ---- the theorem
-- where the flag is false, the root's square is the operand
exact-square : (x : Float) → NotNegative x → inexact x ≡ false → magnitude (sqrt x) * magnitude (sqrt x) ≡ magnitude x * 2 ^ 1074
exact-square x h e = elim (kind x h) [
  | inl z ↦ rw (← zero_root z, zero_magnitude z)
  | inr p ↦ eqb-true _ _ (not-false (squares x) (sym (positive_inexact x p) ∙ e))
]

-- a double's magnitude is that of one that is not negative
unsigned : (x y : Float) → ExactRoot x y → (z : Float) × NotNegative z × (magnitude z ≡ magnitude y)
unfolding magnitude fits
unsigned x nan Y = absurd (false≢true Y.number)
unsigned x (inf s) Y = absurd (false≢true Y.number)
unsigned x (fin s zero e) Y = (fin false zero e, record { double = Y.double; number = refl; sign = unsigned_not_below zero e }, refl)
unsigned x (fin s (suc m) e) Y = (fin false (suc m) e, record { double = Y.double; number = refl; sign = unsigned_not_below (suc m) e }, refl)

-- where a double's square is the operand, it has the root's magnitude, and the flag is false
square-exact : (x y : Float) → NotNegative x → ExactRoot x y → inexact x ≡ false
square-exact x y h Y =
    let u = unsigned x y Y in
    let m : magnitude (sqrt x) ≡ magnitude y = apart _ _ _ ((sqrt-nearest x h).nearest u.0 u.1) (ap (λ (n : ℕ). n * n) u.2 ∙ Y.square) ∙ u.2 in
    let q : squares x ≡ true = eq-eqb _ _ (ap (λ (n : ℕ). n * n) m ∙ Y.square) in
    inexact_is x ∙ rw q (none (positive x))
  where
    none : (b : Bool) → b && false ≡ false
    none true = refl
    none false = refl

accepted : (x : Float) → T (fits binary64 x) → complete (sqrt_checks x) ≡ true → NotNegative x
accepted x f h =
    let c = then_complete (refuse (not (finite x)) (NotFinite 0 0)) (refuse (lt x plus_zero) (StoredNotFinite 0)) h in
    record { double = f; number = not-false _ (refuse-complete (not (finite x)) (NotFinite 0 0) c.0); sign = refuse-complete (lt x plus_zero) (StoredNotFinite 0) c.1 }

-- an accepted operand's root is handed back, and nothing beside a refusal
handed-root : (x : Float) → complete (ended (sqrt_call x)) ≡ true → (complete (sqrt_checks x) ≡ true) × (handed_back x ≡ flagged x)
handed-root x = go (sqrt_checks x)
  where
    go : (o : Outcome) → complete (ended (answer o (flagged x))) ≡ true → (complete o ≡ true) × (value_or no_root (answer o (flagged x)) ≡ flagged x)
    go (Ok _) h = (refl, refl)
    go (Err refusal) h = absurd (false≢true h)

handed-none : (x : Float) → complete (ended (sqrt_call x)) ≡ false → handed_back x ≡ no_root
handed-none x = go (sqrt_checks x)
  where
    go : (o : Outcome) → complete (ended (answer o (flagged x))) ≡ false → value_or no_root (answer o (flagged x)) ≡ no_root
    go (Ok _) h = absurd (true≢false h)
    go (Err refusal) h = refl

pub inexact-roots : InexactTheorem
inexact-roots x f = record {
  inexact = λ a t y Y.
      let r = handed-root x a in
      false≢true (sym (square-exact x y (accepted x f r.0) Y) ∙ sym (ap (λ (z : Rounded). z.inexact) r.1) ∙ t);
  exact = λ a t.
      let r = handed-root x a in
      let h = accepted x f r.0 in
      subst (ExactRoot x) (sym (ap (λ (z : Rounded). z.value) r.1)) (record { double = sqrt-fits x f; number = (sqrt-nearest x h).result.number; square = exact-square x h (sym (ap (λ (z : Rounded). z.inexact) r.1) ∙ t) });
  refused = λ a. ap (λ (z : Rounded). z.inexact) (handed-none x a);
}
