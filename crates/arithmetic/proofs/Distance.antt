-- The whole root rounded is nearer to the root than any other number of 53 digits: by squares of whole numbers.
use mathlib.Core.Path.{◌≡◌, refl, sym, ap, ◌∙◌}
use mathlib.Core.Bool.{Bool, true, false, not}
use mathlib.Core.Logic.{inl, inr, ◌⊎◌}
use Prim.Native.Nat.{ℕ, zero, suc, ◌+◌, ◌-◌, ◌*◌, ◌/◌, ◌%◌, ◌^◌, ◌≤◌, ◌<◌}
use native.Mathlib.Omega.{arith}
use native.Mathlib.Nat.{eq-or-lt_of_le, mul-le-mul, mul-le-mul_left, mul-le-mul_right, mul-lt-mul_of_pos_right, lt_of_mul-lt-mul_right, eq_of_mul-eq-mul_right, mul_assoc, mul_comm, mul_left_comm, mul-mul-mul_comm, mul-add, add-mul, pow-suc}
use lib.Dec.{T, ltb, ltb→lt, nltb→le}
use lib.Pow.{pow_pos, pow_mono, pow-add}
use Rattle.arithmetic.specs.Nearest.{Nearer}
use Rattle.arithmetic.proofs.WholeRoot.{square-lt}

-- the square of an odd number is odd
odd_square : (r : ℕ) → r % 2 ≡ 1 → r * r % 2 ≡ 1
odd_square r e =
    let h : ℕ = r / 2 in
    let z : r ≡ 2 * h + 1 = omega arith in
    let y : r * r ≡ 2 * (h * (2 * h + 1) + h) + 1 = ap (λ (n : ℕ). n * n) z ∙ simp (add-mul, mul-add, mul_assoc) (omega arith) in
    omega arith

at_least : (a b : ℕ) → a < b → a + 1 ≤ b
at_least a b h = omega arith

pub which : (a b : ℕ) → (a < b) ⊎ (b ≤ a)
which a b = go (ltb a b) (ltb→lt a b) (nltb→le a b)
  where
    go : (c : Bool) → (T c → a < b) → (T (not c) → b ≤ a) → (a < b) ⊎ (b ≤ a)
    go true y n = inl (y tt)
    go false y n = inr (n tt)

-- No root of a double lies halfway between two: where nothing is cut off, the whole part is even.
pub even_whole : (m k r scale : ℕ) → m < 2 ^ 53 → 2 ^ 53 ≤ r → r * 2 ^ scale * (r * 2 ^ scale) ≡ m * 2 ^ k → r % 2 ≡ 0
even_whole m k r scale small lo e = elim (which A k) [ inl l ↦ few l | inr l ↦ many l ]
  where
    A : ℕ
    A = scale + scale

    f : r * r * 2 ^ A ≡ m * 2 ^ k
    f = ap (λ (n : ℕ). r * r * n) (pow-add 2 scale scale) ∙ sym (mul-mul-mul_comm r (2 ^ scale) r (2 ^ scale)) ∙ e

    few : A < k → r % 2 ≡ 0
    few l =
        let j : ℕ = k - suc A in
        let z : m * 2 ^ k ≡ m * 2 ^ j * 2 * 2 ^ A = ap (λ (n : ℕ). m * 2 ^ n) (omega arith) ∙ ap (λ (n : ℕ). m * n) (pow-add 2 (suc j) A ∙ ap (λ (n : ℕ). n * 2 ^ A) (pow-suc 2 j)) ∙ regroup m (2 ^ j) (2 ^ A) in
        let y : r * r ≡ m * 2 ^ j * 2 = eq_of_mul-eq-mul_right (2 ^ A) (pow_pos A) _ _ (f ∙ z) in
        go (r % 2) refl y
      where
        regroup : (a b c : ℕ) → a * (b * 2 * c) ≡ a * b * 2 * c
        regroup a b c = simp mul_assoc

        go : (b : ℕ) → r % 2 ≡ b → r * r ≡ m * 2 ^ (k - suc A) * 2 → r % 2 ≡ 0
        go zero z y = z
        go (suc zero) z y = absurd (omega (arith, odd_square r z))
        go (suc (suc b)) z y = omega arith

    many : k ≤ A → r % 2 ≡ 0
    many l =
        let j : ℕ = A - k in
        let z : r * r * 2 ^ A ≡ r * r * 2 ^ j * 2 ^ k = ap (λ (n : ℕ). r * r * 2 ^ n) (omega arith) ∙ ap (λ (n : ℕ). r * r * n) (pow-add 2 j k) ∙ sym (mul_assoc (r * r) (2 ^ j) (2 ^ k)) in
        let y : r * r * 2 ^ j ≡ m = eq_of_mul-eq-mul_right (2 ^ k) (pow_pos k) _ _ (sym z ∙ f) in
        absurd (omega (arith, mul-le-mul lo lo, mul-le-mul_left {m = 1} {n = 2 ^ j} (r * r) (pow_pos j)))

-- ---- squares of what is at most, or at least, twice a
pub twice_square : (a : ℕ) → 2 * a * (2 * a) ≡ 4 * (a * a)
twice_square a = simp (mul_assoc, mul_left_comm) (omega arith)

more : (M a N : ℕ) → 2 * a ≤ M → N < a * a → 4 * N < M * M
more M a N h l = omega (arith, twice_square a, mul-le-mul h h)

less : (M a N : ℕ) → M ≤ 2 * a → a * a < N → M * M < 4 * N
less M a N h l = omega (arith, twice_square a, mul-le-mul h h)

less_eq : (M a N : ℕ) → M < 2 * a → a * a ≤ N → M * M < 4 * N
less_eq M a N h l = omega (arith, twice_square a, square-lt h)

module _ (N r scale : ℕ) (under : r * 2 ^ scale * (r * 2 ^ scale) ≤ N) (over : N < (r + 1) * 2 ^ scale * ((r + 1) * 2 ^ scale)) (odd : r % 2 ≡ 1 → r * 2 ^ scale * (r * 2 ^ scale) < N) (lo : 2 ^ 53 ≤ r) (hi : r < 2 ^ 54) where
  abbrev q : ℕ
  q = (r + 1) / 2

  abbrev P : ℕ
  P = 2 ^ suc scale

  abbrev D : ℕ
  D = 2 ^ scale

  step : P ≡ D * 2
  step = pow-suc 2 scale

  whole : q * P ≡ 2 * q * D
  whole = rw (pow-suc 2 scale) (sym (mul_assoc q D 2) ∙ mul_comm (q * D) 2 ∙ sym (mul_assoc 2 q D))

  -- a step of P or more away
  far_up : (Y : ℕ) → q * P + P ≤ Y → 4 * N < (q * P + Y) * (q * P + Y)
  far_up Y h = more (q * P + Y) ((r + 1) * D) N (omega (arith, step, whole, add-mul (2 * q) 1 D, mul-le-mul_right {m = r + 1} {n = 2 * q + 1} D (omega arith))) over

  far_down : (Y : ℕ) → Y + P ≤ q * P → (q * P + Y) * (q * P + Y) < 4 * N
  far_down Y h = go (r % 2) refl
    where
      even : (r : ℕ) → r % 2 ≡ 0 → 2 * ((r + 1) / 2) ≡ r
      even r e = omega arith

      next : (r : ℕ) → r % 2 ≡ 1 → 2 * ((r + 1) / 2) ≡ r + 1
      next r e = omega arith

      go : (b : ℕ) → r % 2 ≡ b → (q * P + Y) * (q * P + Y) < 4 * N
      go zero e = less_eq (q * P + Y) (r * D) N (omega (arith, step, whole, pow_pos (suc scale), ap (λ (n : ℕ). n * D) (even r e))) under
      go (suc zero) e = less (q * P + Y) (r * D) N (omega (arith, step, whole, ap (λ (n : ℕ). n * D) (next r e), add-mul r 1 D)) (odd e)
      go (suc (suc b)) e = omega arith

  -- below a power of two, where the doubles are closer together
  edge : (Y : ℕ) → q ≡ 2 ^ 52 → Y < q * P → (q * P + Y) * (q * P + Y) < 4 * N
  edge Y z h = less_eq (q * P + Y) (r * D) N (omega (arith, whole, mul-le-mul_right {m = 2 * q} {n = r} D (omega arith))) under

  pub nearer : (c j : ℕ) → c < 2 ^ 53 → Nearer N (q * P) (c * 2 ^ j)
  nearer c j small = elim (which j (suc scale)) [ inl l ↦ fine l | inr l ↦ coarse l ]
    where
      coarse : suc scale ≤ j → Nearer N (q * P) (c * 2 ^ j)
      coarse l =
          let y : ℕ = c * 2 ^ (j - suc scale) in
          let z : c * 2 ^ j ≡ y * P = ap (λ (n : ℕ). c * n) (ap (λ (n : ℕ). 2 ^ n) (omega arith) ∙ pow-add 2 (j - suc scale) (suc scale)) ∙ sym (mul_assoc c (2 ^ (j - suc scale)) P) in
          rw z (record {
            below = λ h. far_up (y * P) (omega (arith, add-mul q 1 P, mul-le-mul_right P (at_least q y (lt_of_mul-lt-mul_right P h))));
            above = λ h. far_down (y * P) (omega (arith, add-mul y 1 P, mul-le-mul_right P (at_least y q (lt_of_mul-lt-mul_right P h))));
          })

      fine : j < suc scale → Nearer N (q * P) (c * 2 ^ j)
      fine l =
          let a : c * 2 ^ j < 2 ^ 53 * 2 ^ j = mul-lt-mul_of_pos_right small (pow_pos j) in
          let d : 2 ^ suc j ≡ 2 ^ j * 2 = pow-suc 2 j in
          let m : 2 ^ suc j ≤ P = pow_mono l in
          let g : 2 ^ 52 ≤ q = omega arith in
          let b : 2 ^ 52 * P ≤ q * P = mul-le-mul_right P g in
          record {
            below = λ h. absurd (omega arith);
            above = λ h. elim (eq-or-lt_of_le g) [ inl z ↦ edge (c * 2 ^ j) (sym z) h | inr k ↦ far_down (c * 2 ^ j) (omega (arith, mul-le-mul_right P (at_least (2 ^ 52) q k), add-mul (2 ^ 52) 1 P)) ];
          }
