-- The cells of n rows of n entries.
use mathlib.Core.Path.{◌≡◌}
use Prim.Native.Nat.{ℕ, suc, ◌+◌, ◌*◌, ◌≤◌, ◌<◌}
use native.Mathlib.Nat.{mul-le-mul_right, mul-le-mul_left, suc-mul, le_trans}
use native.Mathlib.Omega.{arith}

pub cell_lt : (n i j : ℕ) → i < n → j < n → i * n + j < n * n
cell_lt n i j hi hj = let a : suc i * n ≤ n * n = mul-le-mul_right n hi in let b : suc i * n ≡ i * n + n = suc-mul i n in omega arith

pub square-small : (n : ℕ) → n ≤ 48 → n * n ≤ 2304
square-small n h = le_trans (mul-le-mul_right n h) (mul-le-mul_left 48 h)
