-- A matrix and its reloading: the second is the first with its positions moved. Both have the same gamma.
use mathlib.Core.Path.{◌≡◌, ap₂, ◌∙◌}
use mathlib.Core.Bool.{true}
use mathlib.Core.List.{List}
use Prim.Native.Nat.{ℕ, ◌+◌, ◌*◌, ◌/◌, ◌%◌, ◌<◌}
use lib.Arith.{digits_div, digits_mod}
use lib.Dec.{T}
use lib.ListN.{get_or}
use lib.Ieee.{Float, nan, binary64, fits}
use lib.Ieee.Scale.{finite}
use Rattle.arithmetic.proofs.OrderLaws.{finite_number}
use Rattle.arithmetic.proofs.Folds.{Double}
use Rattle.matrix.specs.Matrix.{at}
use Rattle.matrix.proofs.CellLaws.{cell_lt}
use Rattle.matrix.proofs.TableLaws.{length-table, get_or-table}
use Rattle.matrix.proofs.Bijection.{Bijection}
use Rattle.matrix.proofs.EntryLaws.{Entries}
use Rattle.methods.specs.AcceptedMatrix.{AcceptedMatrix}
use Rattle.methods.specs.Reloading.{LoadOrder, reload}
use Rattle.methods.specs.Statements.{diagonal_max}
use Rattle.methods.proofs.LoadOrders.{order, position, order-bijection}
use Rattle.methods.proofs.Magnitudes.{diagonal_max-along}
use Rattle.methods.proofs.Moved.{Moved}

-- a finite double
pub record Good (x : Float) : Type 0 where
  pub number : finite x ≡ true
  pub double : T (fits binary64 x)

-- B is A loaded by s, whose inverse is s'
pub record Loaded (n : ℕ) (s s' : ℕ → ℕ) (A B : List Float) : Type 0 where
  pub bijection : Bijection 0 n s s'
  pub moved : Moved n s A B
  pub symmetric : (x y : ℕ) → x < n → y < n → at n A x y ≡ at n A y x
  pub good : (x y : ℕ) → x < n → y < n → Good (at n A x y)

reloaded : (n : ℕ) (s : List ℕ) (a : List Float) → LoadOrder n s → Entries n a → Moved n (order s) a (reload n s a)
reloaded n s a L h = record {
  entries_a = h;
  entries_b = length-table (n * n) _;
  moved = λ x y px py.
      get_or-table (n * n) (λ k. at n a (get_or s (k / n) 0) (get_or s (k % n) 0)) (x * n + y) nan (cell_lt n x y px py)
      ∙ ap₂ (λ (i j : ℕ). at n a (get_or s i 0) (get_or s j 0)) (digits_div x py) (digits_mod x py);
}

pub loaded : (n : ℕ) (a : List Float) (s : List ℕ) → AcceptedMatrix n a → LoadOrder n s → Loaded n (order s) (position n s) a (reload n s a)
loaded n a s A L = record {
  bijection = order-bijection n s L;
  moved = reloaded n s a L A.entries;
  symmetric = A.symmetric;
  good = λ x y px py. record { number = A.finite_entries x y px py; double = A.doubles x y px py };
}

-- ---- gamma
pub all-double : {n : ℕ} {s s' : ℕ → ℕ} {A B : List Float} → Loaded n s s' A B → (x y : ℕ) → x < n → y < n → Double (at n A x y)
all-double {n} {s} {s'} {A} {B} D x y px py = record { number = finite_number (at n A x y) (D.good x y px py).number; double = (D.good x y px py).double }

pub gamma_same : {n : ℕ} {s s' : ℕ → ℕ} {A B : List Float} → Loaded n s s' A B → diagonal_max n A ≡ diagonal_max n B
gamma_same {n} {s} {s'} {A} {B} D = diagonal_max-along n s s' A B D.bijection D.moved.moved (all-double D)
