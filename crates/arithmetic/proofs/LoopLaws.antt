-- Loops' laws and induction principles.
use mathlib.Core.Path.{◌≡◌, refl, sym, ap, ◌∙◌, subst}
use Prim.Native.Nat.{ℕ, zero, suc, ◌+◌, ◌-◌, ◌≤◌, ◌<◌}
use native.Mathlib.Omega.{arith}
use Rattle.arithmetic.specs.Loop.{times, range}

pub range_none : {S : Type 0} (a b : ℕ) (body : ℕ → S → S) (s : S) → b ≤ a → range a b body s ≡ s
unfolding range times
range_none a b body s h = let e : b - a ≡ 0 = omega arith in rw e

pub range-more : {S : Type 0} (a b : ℕ) (body : ℕ → S → S) (s : S) → a ≤ b → range a (b + 1) body s ≡ body b (range a b body s)
unfolding range times
range-more a b body s h =
    let e : (b + 1) - a ≡ suc (b - a) = omega arith in
    let g : a + (b - a) ≡ b = omega arith in
    rw (e, g)

-- ---- a counting loop in code whose invariant is s ≡ range a i body s₀: before it, over a turn, and after it
pub loop_start : {S : Type 0} (a : ℕ) (body : ℕ → S → S) (s : S) → s ≡ range a a body s
loop_start a body s = sym (range_none a a body s (omega arith))

pub loop_turn : {S : Type 0} (a i : ℕ) (body : ℕ → S → S) (s₀ s s' : S) → a ≤ i → s ≡ range a i body s₀ → s' ≡ body i s → s' ≡ range a (i + 1) body s₀
loop_turn a i body s₀ s s' h e g = g ∙ ap (body i) e ∙ sym (range-more a i body s₀ h)

pub loop_end : {S : Type 0} (a i n : ℕ) (body : ℕ → S → S) (s₀ s : S) → i ≤ n → n ≤ i → s ≡ range a i body s₀ → s ≡ range a n body s₀
loop_end a i n body s₀ s h k e = let q : i ≡ n = omega arith in rw q at e

-- ---- induction over the index
times-ind : {S : Type 0} (P : ℕ → S → Type 0) (m : ℕ) (body : ℕ → S → S) (s : S) → P 0 s → ((k : ℕ) → k < m → (t : S) → P k t → P (suc k) (body k t)) → P m (times m body s)
unfolding times
times-ind P zero body s z h = z
times-ind P (suc m) body s z h = h m (omega arith) (times m body s) (times-ind P m body s z (λ k l. h k (omega arith)))

pub range-ind : {S : Type 0} (P : ℕ → S → Type 0) (a b : ℕ) (body : ℕ → S → S) (s : S) → a ≤ b → P a s
    → ((i : ℕ) → a ≤ i → i < b → (t : S) → P i t → P (suc i) (body i t)) → P b (range a b body s)
unfolding range
range-ind P a b body s le z h =
    subst (λ (x : ℕ). P x (times (b - a) (λ k. body (a + k)) s)) (omega arith)
    (times-ind (λ k t. P (a + k) t) (b - a) (λ k. body (a + k)) s (subst (λ (x : ℕ). P x s) (omega arith) z)
    (λ k l t p. subst (λ (x : ℕ). P x (body (a + k) t)) (omega arith) (h (a + k) (omega arith) (omega arith) t p)))

-- a loop in code left before its end, where the turns that remain change nothing
pub loop_rest : {S : Type 0} (a i n : ℕ) (body : ℕ → S → S) (s₀ s : S) → a ≤ i → i ≤ n → s ≡ range a i body s₀ → ((k : ℕ) → i ≤ k → k < n → body k s ≡ s) → s ≡ range a n body s₀
loop_rest a i n body s₀ s h q e same =
    range-ind (λ k t. s ≡ range a k body s₀) i n (λ k t. t) s q e (λ k u w t p. subst (λ (x : ℕ). s ≡ range a x body s₀) (omega arith) (loop_turn a k body s₀ s s (omega arith) p (sym (same k u w))))

-- ---- induction over two loops in step
times2_ind : {S S' : Type 0} (R : ℕ → S → S' → Type 0) (m : ℕ) (f : ℕ → S → S) (g : ℕ → S' → S') (s : S) (s' : S') → R 0 s s'
    → ((k : ℕ) → k < m → (t : S) (t' : S') → R k t t' → R (suc k) (f k t) (g k t')) → R m (times m f s) (times m g s')
unfolding times
times2_ind R zero f g s s' z h = z
times2_ind R (suc m) f g s s' z h = h m (omega arith) (times m f s) (times m g s') (times2_ind R m f g s s' z (λ k l. h k (omega arith)))

pub range2_ind : {S S' : Type 0} (R : ℕ → S → S' → Type 0) (a b : ℕ) (f : ℕ → S → S) (g : ℕ → S' → S') (s : S) (s' : S') → a ≤ b → R a s s'
    → ((i : ℕ) → a ≤ i → i < b → (t : S) (t' : S') → R i t t' → R (suc i) (f i t) (g i t')) → R b (range a b f s) (range a b g s')
unfolding range
range2_ind R a b f g s s' le z h =
    subst (λ (x : ℕ). R x (times (b - a) (λ k. f (a + k)) s) (times (b - a) (λ k. g (a + k)) s')) (omega arith)
    (times2_ind (λ k t t'. R (a + k) t t') (b - a) (λ k. f (a + k)) (λ k. g (a + k)) s s' (subst (λ (x : ℕ). R x s s') (omega arith) z)
    (λ k l t t' p. subst (λ (x : ℕ). R x (f (a + k) t) (g (a + k) t')) (omega arith) (h (a + k) (omega arith) (omega arith) t t' p)))

-- two loops whose turns do the same
pub same-loops : {S : Type 0} (a b : ℕ) (f g : ℕ → S → S) (s : S) → a ≤ b → ((i : ℕ) → a ≤ i → i < b → (t : S) → f i t ≡ g i t) → range a b f s ≡ range a b g s
same-loops a b f g s h e = range2_ind (λ i t u. t ≡ u) a b f g s s h refl (λ i p q t u k. ap (f i) k ∙ e i p q u)
