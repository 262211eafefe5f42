-- Document 01's section 'Hand calculations': the fourteen as rows of one table, all without contract numbers, with document 02's count of
-- inexact roots, and SE90's as N6 changes them. proofs/Rows.antt: `hand_calculations`, one fact over all rows.
use Rattle.std.specs.Prelude.{◌≡◌, Bool, true, false, List, [], ◌∷◌, ℕ, pos, negsuc, Float, Ok, Err, None, Some}
use Rattle.std.specs.Float.{fin, binary64}
use Rattle.std.specs.Float.Ieee.{neg, of_bits}
use Rattle.arithmetic.specs.Double.{plus_zero}
use Rattle.arithmetic.specs.Sqrt.{sqrt_call}
use Rattle.arithmetic.specs.Inexact.{handed_back}
use Rattle.arithmetic.specs.Outcome.{Outcome}
use Rattle.arithmetic.specs.declared.refusal.Refusal.TheVariants.{StoredNotFinite}
use Rattle.matrix.specs.Matrix.{zeros}
use Rattle.matrix.specs.Calls.{eigenvalues_2x2_call, search_call}
use Rattle.circles.specs.Circles.{gershgorin_circles_call, circles_call}
use Rattle.methods.specs.Factor.{factor, tolerances}
use Rattle.methods.specs.declared.method.Method.{Method}
use Rattle.methods.specs.declared.method.Method.TheVariants.{Gmw81, Se}
use Rattle.methods.specs.Marks.{Mark}
use Rattle.methods.specs.declared.schnabel_eskow.Variant.TheVariants.{Se90, Se99}

-- ---- numbers of the table
abbrev 1· : Float
1· = fin false 1 (pos 0)

abbrev 2· : Float
2· = fin false 1 (pos 1)

abbrev 3· : Float
3· = fin false 3 (pos 0)

abbrev pub 4· : Float
4· = fin false 1 (pos 2)

abbrev 5· : Float
5· = fin false 5 (pos 0)

abbrev 7· : Float
7· = fin false 7 (pos 0)

abbrev 8· : Float
8· = fin false 1 (pos 3)

abbrev 9· : Float
9· = fin false 9 (pos 0)

abbrev 0· : Float
0· = plus_zero

abbrev pub minus : Float → Float
minus x = neg x

-- 2^-26, 2^-52, 2^-537 and 2^-1074
abbrev 2^-26 : Float
2^-26 = fin false 1 (negsuc 25)

abbrev 2^-52 : Float
2^-52 = fin false 1 (negsuc 51)

abbrev 2^-537 : Float
2^-537 = fin false 1 (negsuc 536)

abbrev 2^-1074 : Float
2^-1074 = fin false 1 (negsuc 1073)

abbrev bits : ℕ → Float
bits pattern = of_bits binary64 pattern

abbrev largest_double : Float
largest_double = bits 0x7fef_ffff_ffff_ffff

-- ---- a row: which calculation it is, and what comes out
pub data Row : Type 0 where
  -- method, n, matrix; outcome (refusal and place), tied step, phase-two step, count of inexact roots, L, e, p
  factorization : Method → ℕ → List Float → Outcome → Mark → Mark → ℕ → List Float → List Float → List ℕ → Row
  -- a block of two rows of two; the larger and the smaller eigenvalue
  eigenvalues : List (List Float) → Float → Float → Row
  -- n, matrix; centres, radii
  circles : ℕ → List Float → List Float → List Float → Row
  -- a list; the index of the largest, and of the largest magnitude
  searches : List Float → ℕ → ℕ → Row
  -- an operand; its root, and whether it is inexact
  root : Float → Float → Bool → Row

-- what a row states, of the definitions themselves
abbrev pub Holds : Row → Type 0
Holds (factorization method n a outcome tied phase2 inexact l e p) =
    factor method tolerances [] n a ≡ record { decomposition = record { outcome = outcome; tied = tied; phase2 = phase2; inexact = inexact }; l = l; e = e; p = p }
Holds (eigenvalues mat hi lo) = eigenvalues_2x2_call mat ≡ Ok (record { hi = hi; lo = lo })
Holds (circles n mat centres radii) = gershgorin_circles_call n mat (zeros n) (zeros n) ≡ circles_call (Ok tt) centres radii
Holds (searches c index by-magnitude) = (search_call false c ≡ Ok index) × (search_call true c ≡ Ok by-magnitude)
Holds (root x r inexact) = sqrt_call x ≡ Ok (record { value = r; inexact = inexact })

abbrev pub All : List Row → Type 0
All [] = Unit
All (row ∷ rest) = Holds row × All rest

abbrev pub rows : List Row
rows =
    factorization Gmw81 1 (4· ∷ []) (Ok tt) None None 0 (2· ∷ []) (0· ∷ []) (0 ∷ [])
    ∷ factorization Gmw81 1 (minus 4· ∷ []) (Ok tt) None None 0 (2· ∷ []) (8· ∷ []) (0 ∷ [])
    ∷ factorization Gmw81 1 (0· ∷ []) (Ok tt) None None 0 (2^-26 ∷ []) (2^-52 ∷ []) (0 ∷ [])
    ∷ factorization Gmw81 2 (4· ∷ 2· ∷ 2· ∷ 2· ∷ []) (Ok tt) None None 0 (2· ∷ 0· ∷ 1· ∷ 1· ∷ []) (0· ∷ 0· ∷ []) (0 ∷ 1 ∷ [])
    ∷ factorization Gmw81 2 (2· ∷ 2· ∷ 2· ∷ 4· ∷ []) (Ok tt) None None 0 (2· ∷ 0· ∷ 1· ∷ 1· ∷ []) (0· ∷ 0· ∷ []) (1 ∷ 0 ∷ [])
    ∷ factorization Gmw81 2 (1· ∷ 0· ∷ 0· ∷ 1· ∷ []) (Ok tt) (Some 0) None 0 (1· ∷ 0· ∷ 0· ∷ 1· ∷ []) (0· ∷ 0· ∷ []) (0 ∷ 1 ∷ [])
    ∷ factorization Gmw81 2 (largest_double ∷ largest_double ∷ largest_double ∷ largest_double ∷ []) (Err (StoredNotFinite 0)) (Some 0) None 0 (zeros 4) (zeros 2) (0 ∷ 1 ∷ [])
    ∷ factorization (Se Se90) 1 (minus 4· ∷ []) (Ok tt) None (Some 0) 1 (bits 0x3f74_28a6_f98f_113f ∷ []) (bits 0x4010_0006_5982_2e65 ∷ []) (0 ∷ [])
    ∷ factorization (Se Se90) 2 (4· ∷ 2· ∷ 2· ∷ 2· ∷ []) (Ok tt) None None 0 (2· ∷ 0· ∷ 1· ∷ 1· ∷ []) (0· ∷ 0· ∷ []) (0 ∷ 1 ∷ [])
    ∷ factorization (Se Se90) 2 (0· ∷ 0· ∷ 0· ∷ 0· ∷ []) (Err (StoredNotFinite 0)) (Some 0) (Some 0) 0 (zeros 4) (zeros 2) (0 ∷ 1 ∷ [])
    ∷ eigenvalues ((2· ∷ 1· ∷ []) ∷ (1· ∷ 2· ∷ []) ∷ []) 3· 1·
    ∷ circles 2 (1· ∷ minus 2· ∷ 3· ∷ 4· ∷ []) (1· ∷ 4· ∷ []) (2· ∷ 2· ∷ [])
    ∷ searches (3· ∷ minus 5· ∷ 3· ∷ []) 0 1
    ∷ root 2^-1074 2^-537 false
    ∷ []

-- ---- SE90's pivots at or below zero (document 02, N6): proofs/Rows.antt, `pivots-at_or_below_zero`
abbrev pub pivots_at_or_below_zero : List Row
pivots_at_or_below_zero =
    -- zeros of either sign
    factorization (Se Se90) 1 (0· ∷ []) (Ok tt) None (Some 0) 0 (0· ∷ []) (0· ∷ []) (0 ∷ [])
    ∷ factorization (Se Se90) 1 (minus 0· ∷ []) (Ok tt) None (Some 0) 0 (0· ∷ []) (0· ∷ []) (0 ∷ [])
    -- the last of two rows; the first pivot is above zero though row 0 is not
    ∷ factorization (Se Se90) 2 (0· ∷ 0· ∷ 0· ∷ 2^-1074 ∷ []) (Ok tt) None (Some 1) 0 (2^-537 ∷ 0· ∷ 0· ∷ 0· ∷ []) (0· ∷ 0· ∷ []) (1 ∷ 0 ∷ [])
    -- a pivot that tmp, of a large column, passes; its tie is kept
    ∷ factorization (Se Se90) 2 (minus 1· ∷ 2· ∷ 2· ∷ minus 1· ∷ []) (Ok tt) (Some 0) (Some 0) 2 (bits 0x3ff6_a0a7_614e_65d5 ∷ 0· ∷ bits 0x3ff6_a095_6bb3_a20c ∷ bits 0x3f7c_823e_0750_7a28 ∷ []) (bits 0x4008_000c_b304_5cc9 ∷ bits 0x4008_000c_b304_5cc9 ∷ []) (0 ∷ 1 ∷ [])
    -- the test comes after the swap
    ∷ factorization (Se Se90) 2 (minus 3· ∷ 0· ∷ 0· ∷ minus 1· ∷ []) (Ok tt) None (Some 0) 2 (bits 0x3ff6_a0a5_2298_44a4 ∷ 0· ∷ 0· ∷ bits 0x3f71_753e_0ec6_399a ∷ []) (bits 0x4008_0009_863f_7df7 ∷ bits 0x4008_0009_863f_7df7 ∷ []) (1 ∷ 0 ∷ [])
    -- the amount overflows
    ∷ factorization (Se Se90) 1 (minus largest_double ∷ []) (Err (StoredNotFinite 0)) None (Some 0) 0 (zeros 1) (zeros 1) (0 ∷ [])
    ∷ []

-- ---- which roots count (document 02, N5): proofs/Rows.antt, `roots_counted`

-- method, n, matrix; phase-two step, and how many of the n diagonal roots are inexact
abbrev Counted : Method → ℕ → List Float → Mark → ℕ → Type 0
Counted method n a phase2 inexact = (factor method tolerances [] n a).decomposition ≡ record { outcome = Ok tt; tied = None; phase2 = phase2; inexact = inexact }

pub record RootsCounted : Type 0 where
  pub root_of_two : (handed_back 2·).inexact ≡ true
  pub root_of_minus_zero : sqrt_call (minus 0·) ≡ Ok (record { value = minus 0·; inexact = false })
  pub gmw81 : Counted Gmw81 1 (2· ∷ []) None 1
  -- beta takes the root of 3 too
  pub not_in_beta : Counted Gmw81 2 (4· ∷ 0· ∷ 0· ∷ 1· ∷ []) None 0
  pub se90 : Counted (Se Se90) 2 (2· ∷ 0· ∷ 0· ∷ 1· ∷ []) None 1
  pub se99 : Counted (Se Se99) 1 (2· ∷ []) None 1
  -- the last row alone, and the last block: both of its roots, the first (of 2), and the second (of 0.75)
  pub one_row_left : Counted (Se Se99) 1 (minus 4· ∷ []) (Some 0) 1
  pub both_in_block : Counted (Se Se99) 2 (1· ∷ 2· ∷ 2· ∷ 2· ∷ []) (Some 0) 2
  pub first_in_block : Counted (Se Se90) 3 (minus 2· ∷ 2· ∷ 2· ∷ 2· ∷ minus 3· ∷ 1· ∷ 2· ∷ 1· ∷ minus 4· ∷ []) (Some 0) 1
  pub second_in_block : Counted (Se Se90) 3 (minus 9· ∷ 2· ∷ 2· ∷ 2· ∷ minus 8· ∷ 4· ∷ 2· ∷ 4· ∷ minus 9· ∷ []) (Some 0) 1
  -- the eigenvalues take the root of 1.25 too
  pub not_in_eigenvalues : Counted (Se Se90) 3 (minus 9· ∷ 2· ∷ 2· ∷ 2· ∷ minus 7· ∷ 2· ∷ 2· ∷ 2· ∷ minus 8· ∷ []) (Some 0) 0

-- ---- a tie by contract number

-- after the swap at step 0 the first position of the tied two holds contract 1, and the smaller number is contract 0's
abbrev pub tied_after_swap : List Float
tied_after_swap = 1· ∷ 0· ∷ 0· ∷ 0· ∷ 1· ∷ 0· ∷ 0· ∷ 0· ∷ 3· ∷ []

-- p without numbers, and with each contract's position as its number
abbrev pub OrdersOf : Method → Type 0
OrdersOf method =
    ((factor method tolerances [] 3 tied_after_swap).p ≡ 2 ∷ 1 ∷ 0 ∷ []) × ((factor method tolerances (0 ∷ 1 ∷ 2 ∷ []) 3 tied_after_swap).p ≡ 2 ∷ 0 ∷ 1 ∷ [])
