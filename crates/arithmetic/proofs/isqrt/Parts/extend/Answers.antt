use native.Mathlib.Omega.{arith}
use Prim.Native.Nat.{ℕ, ◌+◌, ◌-◌, ◌*◌, ◌≤◌, ◌<◌}
use mathlib.Core.Path.{◌≡◌}
use Rattle.arithmetic.specs.SqrtStages.{Remainder}
use Rattle.arithmetic.proofs.WholeRoot.{sq_step, some-root}
use Rattle.arithmetic.proofs.Doubling.{Bounds, bounds, total, quotient, modulus}
use Rattle.arithmetic.proofs.isqrt.Parts.extend.Goals as goal
use Rattle.arithmetic.proofs.isqrt.Parts.extend.Goals.{Else-sq-u, Start}

known : (c : Start) → Bounds c.args.self.root c.args.self.rest c.args.b
known c = bounds _ _ _ c.requires

-- where the square is too large, the digit is not 0
digit : (c : Else-sq-u) → 0 < quotient c.args.self.root c.args.self.rest c.args.b
digit c = some-root _ _ c.if-sq-u.false

-- one less than r, where the square is too large
less : (N r u q : ℕ) → 0 < r → N + q * q ≡ r * r + u → u < q * q → q * q ≤ u + (2 * r - 1) → Remainder N (r - 1) (u + (2 * r - 1) - q * q)
less N r u q p e h l =
    let t : (r - 1 + 1) * (r - 1 + 1) ≡ (r - 1) * (r - 1) + 2 * (r - 1) + 1 = sq_step (r - 1) in
    let z : r - 1 + 1 ≡ r = omega arith in
    let y : r * r ≡ (r - 1) * (r - 1) + 2 * (r - 1) + 1 = rw z at t in
    record { total = omega arith; rest = omega arith }

pub overflow_mul-sq : goal.overflow_mul-sq
overflow_mul-sq c = omega (arith, known c)

pub returns-then-sq-u : goal.returns-then-sq-u
returns-then-sq-u c =
    let a = c.args in
    record { total = omega (arith, total a.self.root a.self.rest a.b); rest = omega (arith, known c.before) }

pub overflow_sub-result-4 : goal.overflow_sub-result-4
overflow_sub-result-4 c = omega (arith, known c.before, digit c)

pub returns : goal.returns
returns c =
    let a = c.args in
    let k = known c.before in
    let p = digit c in
    less _ (a.self.root * a.b + quotient a.self.root a.self.rest a.b) (modulus a.self.root a.self.rest a.b * a.b) (quotient a.self.root a.self.rest a.b) (omega arith) (total a.self.root a.self.rest a.b) c.if-sq-u.false (omega arith)
