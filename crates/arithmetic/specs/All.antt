-- Tests of each position from a to b - 1.
use Rattle.std.specs.Prelude.{Bool, true, ◌&&◌, ℕ}
use Rattle.arithmetic.specs.Loop.{range}

-- whether each of them passes
unfoldable pub all : ℕ → ℕ → (ℕ → Bool) → Bool
unfolding range
all a b test = range a b (λ i ok. ok && test i) true
