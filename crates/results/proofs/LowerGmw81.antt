-- L of GMW81 is finite, with +0.0 above the diagonal.
use mathlib.Core.Path.{◌≡◌, sym, ap, ◌∙◌}
use mathlib.Core.List.{List}
use mathlib.Core.Bool.{Bool, true≢false}
use Prim.Native.Nat.{ℕ}
use lib.Ieee.{Float}
use Rattle.arithmetic.proofs.Cases.{Is, is, holds, fails}
use Rattle.methods.specs.Marks.{marked}
use Rattle.methods.specs.Gmw81.{Run, dout_of, unit_lower, product, scaled_finite, finish, stepped, run}
use Rattle.std.specs.Prelude.{None}
use Rattle.methods.specs.AcceptedMatrix.{AcceptedMatrix}
use Rattle.methods.proofs.FiniteEntries.{FiniteEntries, unit_lower_finite, unit_lower_above}
use Rattle.methods.proofs.GmwFinite.{FiniteRun, steps_finite}
use Rattle.methods.proofs.GmwLaws.{finish-stays, finish-goes}
use Rattle.methods.proofs.Refused.{goes_on}
use Rattle.results.specs.Results.{LowerFactor}
use Rattle.results.proofs.LowerTriangle.{finite_lower}
use Rattle.results.proofs.LowerScaled.{product-lower}

unit_lower_lem : (n : ℕ) (l : List Float) → FiniteEntries n l → LowerFactor n (unit_lower n l)
unit_lower_lem n l F = finite_lower n (unit_lower n l) (unit_lower_finite n l F) (unit_lower_above n l F)

finish-lower : (n : ℕ) (s : Run) → FiniteRun n s → (finish n s).progress.refused ≡ None → LowerFactor n (finish n s).l
finish-lower n s F = go (is (marked s.progress.refused))
  where
    scaled_test : Bool
    scaled_test = scaled_finite n (dout_of n s.d) (product n (unit_lower n s.l) (dout_of n s.d))

    go : Is (marked s.progress.refused) → (finish n s).progress.refused ≡ None → LowerFactor n (finish n s).l
    go (holds h) = rw (finish-stays n s h) (λ e. absurd (true≢false (sym h ∙ ap marked e)))
    go (fails h) = rw (finish-goes n s h) (λ e.
        let R = goes_on s.progress.refused scaled_test n e in
        product-lower n (unit_lower n s.l) s.d (unit_lower_lem n s.l (F R.before)) R.test)

pub lower-gmw81 : (numbers : List ℕ) (n : ℕ) (a : List Float) → AcceptedMatrix n a → (run numbers n a).progress.refused ≡ None → LowerFactor n (run numbers n a).l
unfolding run
lower-gmw81 numbers n a A = finish-lower n (stepped numbers n a) (steps_finite numbers n _ _ a (record { entries = A.entries; each = A.finite_entries }))
