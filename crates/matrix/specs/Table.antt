-- The list of f 0, f 1, .., f (k - 1).
use Rattle.std.specs.Prelude.{List, [], ◌∷◌, ℕ, zero, suc}

unfoldable pub table : {A : Type 0} → ℕ → (ℕ → A) → List A
table zero f = []
table (suc k) f = f zero ∷ table k (λ i. f (suc i))
