-- Doubles as document 01's section 'Arithmetic' fixes them. `Float`, its comparisons and its four operations are the library's
-- account of IEEE 754 (lib.Ieee): every operation rounds once to nearest, ties to even. `finite` is lib.Ieee.Scale's.
use Rattle.std.specs.Prelude.{◌≡◌, refl, false, ◌||◌, cond, pos, negsuc}
use lib.Ieee.{Float, nan, inf, fin, binary64, of_bits, add, sub, mul, div, lt, is_nan}

-- constants, by the bit patterns that code has for them
abbrev pub plus_zero : Float
plus_zero = of_bits binary64 0

abbrev pub one : Float
one = of_bits binary64 0x3ff0_0000_0000_0000

-- EPSILON, 2^-52
abbrev pub epsilon : Float
epsilon = of_bits binary64 0x3cb0_0000_0000_0000

-- the four operations at binary64
infixl 6 ◌⊕◌
abbrev pub ◌⊕◌ : Float → Float → Float
x ⊕ y = add binary64 x y

infixl 6 ◌⊖◌
abbrev pub ◌⊖◌ : Float → Float → Float
x ⊖ y = sub binary64 x y

infixl 7 ◌⊗◌
abbrev pub ◌⊗◌ : Float → Float → Float
x ⊗ y = mul binary64 x y

infixl 7 ◌⊘◌
abbrev pub ◌⊘◌ : Float → Float → Float
x ⊘ y = div binary64 x y

-- powi(2)
abbrev pub square : Float → Float
square v = v ⊗ v

unfoldable pub abs : Float → Float
abs nan = nan
abs (inf s) = inf false
abs (fin s m e) = fin false m e

-- v if v > u or u is NaN, else u
abbrev pub max : Float → Float → Float
max u v = cond (lt u v || is_nan u) v u

-- v if v < u or u is NaN, else u
abbrev pub min : Float → Float → Float
min u v = cond (lt v u || is_nan u) v u

-- the constants' values
pub plus_zero_is : plus_zero ≡ fin false 0 (pos 0)
unfolding of_bits
plus_zero_is = refl

pub one_is : one ≡ fin false 1 (pos 0)
unfolding of_bits
one_is = refl

pub epsilon_is : epsilon ≡ fin false 1 (negsuc 51)
unfolding of_bits
epsilon_is = refl
