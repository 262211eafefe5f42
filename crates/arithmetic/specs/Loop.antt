-- Loops: `range a b body s` does body a, body (a + 1), .., body (b - 1) in turn, from s.
use Rattle.std.specs.Prelude.{ℕ, zero, suc, ◌+◌, ◌-◌}

-- body 0, body 1, .., body (k - 1)
unfoldable pub times : {S : Type 0} → ℕ → (ℕ → S → S) → S → S
times zero body s = s
times (suc k) body s = body k (times k body s)

unfoldable pub range : {S : Type 0} → ℕ → ℕ → (ℕ → S → S) → S → S
unfolding times
range a b body s = times (b - a) (λ k. body (a + k)) s
