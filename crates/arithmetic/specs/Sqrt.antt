-- The square root of a double, by whole numbers (document 01, 'Arithmetic').
-- A unit is the smallest positive double, 2^-1074: every finite double's magnitude is a whole number of units.
use Rattle.std.specs.Prelude.{ℕ, zero, suc, ◌+◌, ◌*◌, ◌/◌, ◌^◌, Bool, true, false, not, cond, ◌&&◌, ℤ, leb, ltb, eqb, Float, Result}
use Rattle.std.specs.Float.{nan, inf, fin, binary64}
use Rattle.std.specs.Float.Ieee.{up, down, size, round, lt}
use Rattle.std.specs.Float.Ieee.Scale.{finite}
use Rattle.std.specs.Float.Ieee.Positive.{positive}
use Rattle.arithmetic.specs.Double.{plus_zero}
use Rattle.arithmetic.specs.Outcome.{Outcome, refuse, ◌then◌, answer}
use Rattle.arithmetic.specs.declared.refusal.Refusal.{Refusal}
use Rattle.arithmetic.specs.declared.refusal.Refusal.TheVariants.{NotFinite, StoredNotFinite}
use Rattle.arithmetic.specs.declared.sqrt.Rounded.{Rounded}

-- the whole part of the root of n, for an n of at most 2 * k binary digits: two digits of n for each digit of the root
unfoldable pub isqrt_of : ℕ → ℕ → ℕ
isqrt_of zero n = 0
isqrt_of (suc k) n = let r = 2 * isqrt_of k (n / 4) in cond (leb ((r + 1) * (r + 1)) n) (r + 1) r

-- the whole part of the root of n (proofs/WholeRoot.antt: isqrt n * isqrt n ≤ n < (isqrt n + 1) * (isqrt n + 1))
unfoldable pub isqrt : ℕ → ℕ
unfolding isqrt_of size
isqrt n = isqrt_of (size n / 2 + 1) n

-- a finite double's magnitude in units
unfoldable pub magnitude_of : ℕ → ℤ → ℕ
magnitude_of m e = m * up e * 2 ^ 1074 / down e

unfoldable pub magnitude : Float → ℕ
unfolding magnitude_of
magnitude nan = 0
magnitude (inf s) = 0
magnitude (fin s m e) = magnitude_of m e

-- The double nearest to a number of which r * 2^scale units is the whole part, and that has a part of one more 2^scale where `cut` is true.
-- Any such part rounds as a half does.
unfoldable pub nearest_to : ℕ → Bool → ℕ → Float
unfolding round
nearest_to r cut scale = round binary64 false ((2 * r + cond cut 1 0) * 2 ^ scale) (2 ^ 1075)

-- the root of n units: in units, it is the root of the whole number n * 2^1074
unfoldable pub root_of : ℕ → Float
unfolding isqrt nearest_to
root_of n = let r = isqrt (n * 2 ^ 1074) in nearest_to r (ltb (r * r) (n * 2 ^ 1074)) 0

-- the root inside a run: -0.0 gives -0.0, and a negative number a value that is not finite
unfoldable pub sqrt : Float → Float
unfolding root_of magnitude_of
sqrt nan = nan
sqrt (inf false) = inf false
sqrt (inf true) = nan
sqrt (fin s zero e) = fin s zero e
sqrt (fin true (suc m) e) = nan
sqrt (fin false (suc m) e) = root_of (magnitude_of (suc m) e)

-- The standard's inexact flag: rounding changed the root, so the square of what came out, unrounded, is not the operand. Only the root of a
-- number above zero is rounded. specs/Inexact.antt: no double's square is the operand then.
unfoldable pub inexact : Float → Bool
unfolding sqrt magnitude
inexact x = positive x && not (eqb (magnitude (sqrt x) * magnitude (sqrt x)) (magnitude x * 2 ^ 1074))

abbrev pub flagged : Float → Rounded
flagged x = record { value = sqrt x; inexact = inexact x }

-- the root as a call of its own: 7 for an operand that is not finite, 9 at step 0 for a negative number
abbrev pub sqrt_checks : Float → Outcome
sqrt_checks x = refuse (not (finite x)) (NotFinite 0 0) then refuse (lt x plus_zero) (StoredNotFinite 0)

abbrev pub sqrt_call : Float → Result Rounded Refusal
sqrt_call x = answer (sqrt_checks x) (flagged x)

-- what the exported call hands back beside a refusal: +0.0, and the flag false
abbrev pub no_root : Rounded
no_root = record { value = plus_zero; inexact = false }
