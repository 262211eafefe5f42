-- The length and the elements of a table.
use mathlib.Core.Path.{◌≡◌, refl, ap}
use Prim.Native.Nat.{ℕ, zero, suc, ◌<◌}
use native.Mathlib.Omega.{arith}
use lib.ListN.{length, get_or}
use Rattle.matrix.specs.Table.{table}

pub length-table : {A : Type 0} (k : ℕ) (f : ℕ → A) → length (table k f) ≡ k
unfolding table
length-table zero f = refl
length-table (suc k) f = ap suc (length-table k (λ i. f (suc i)))

pub get_or-table : {A : Type 0} (k : ℕ) (f : ℕ → A) (i : ℕ) (d : A) → i < k → get_or (table k f) i d ≡ f i
unfolding table
get_or-table zero f i d h = absurd (omega arith)
get_or-table (suc k) f zero d h = refl
get_or-table (suc k) f (suc i) d h = get_or-table k (λ t. f (suc t)) i d (omega arith)
