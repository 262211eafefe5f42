-- src/utils.rs: eigenvalues_2x2.
use Rattle.std.specs.Prelude.{List, [], cond, ℕ, get_or, Float}
use Rattle.std.specs.Float.{nan, binary64}
use Rattle.std.specs.Float.Ieee.{of_bits, neg, lt}
use Rattle.arithmetic.specs.Double.{◌⊕◌, ◌⊖◌, ◌⊗◌, ◌⊘◌, square}
use Rattle.arithmetic.specs.Sqrt.{sqrt}
use Rattle.matrix.specs.declared.utils.Eigen.{Eigen}

abbrev pub two : Float
two = of_bits binary64 0x4000_0000_0000_0000

-- entry (i, j) of a block of two rows of two
abbrev pub entry : List (List Float) → ℕ → ℕ → Float
entry mat i j = get_or (get_or mat i []) j nan

-- the larger first
abbrev pub ordered : Float → Float → Eigen
ordered l1 l2 = cond (lt l2 l1) (record { hi = l1; lo = l2 }) (record { hi = l2; lo = l1 })

unfoldable pub eigenvalues_of : Float → Float → Float → Float → Eigen
unfolding sqrt lt neg
eigenvalues_of a b c d =
    let tmp = sqrt (square (neg (a ⊕ d) ⊘ two) ⊖ a ⊗ d ⊕ b ⊗ c) in
    let l1 = (a ⊕ d) ⊘ two ⊕ tmp in
    let l2 = (a ⊕ d) ⊘ two ⊖ tmp in
    ordered l1 l2

abbrev pub eigenvalues_2x2 : List (List Float) → Eigen
eigenvalues_2x2 mat = eigenvalues_of (entry mat 0 0) (entry mat 0 1) (entry mat 1 0) (entry mat 1 1)
