-- Bytes as elements of eight bytes each, whatever these stand for.
use Rattle.std.specs.Prelude.{List, [], ◌∷◌, ◌++◌, ℕ, ◌*◌, ◌/◌, length, take, drop}
use Rattle.matrix.specs.Table.{table}

unfoldable pub elements : List ℕ → List (List ℕ)
unfolding table
elements b = table (length b / 8) (λ k. take 8 (drop (8 * k) b))

-- one after the other
unfoldable pub joined : List (List ℕ) → List ℕ
joined [] = []
joined (x ∷ xs) = x ++ joined xs
