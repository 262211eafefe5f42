-- Fields read from their bytes.
use mathlib.Core.Path.{◌≡◌, refl, ap, ◌∙◌}
use mathlib.Core.List.{List, [], ◌∷◌, ◌++◌}
use Prim.Native.Nat.{ℕ, zero, suc, ◌≤◌, ◌<◌}
use native.Mathlib.Omega.{arith}
use lib.ListN.{length, take, drop}
use lib.Seq.{take-append_seam, drop-append_seam}
use Rattle.encoding.specs.Bytes.{low_first, bytes}
use Rattle.answer_record.specs.Field.{field}
use Rattle.whole_calls.specs.ReadBack.{Field, split}
use Rattle.encoding.proofs.Numbers.{number-bytes}

unfoldable pub join : List Field → List ℕ
unfolding bytes
join [] = []
join (f ∷ fs) = field f.tag f.content ++ join fs

-- each content's length has two bytes
abbrev pub Short : List Field → Type 0
Short [] = Unit
Short (f ∷ fs) = (length f.content < 65536) × Short fs

cut : (k t len : ℕ) (c rest : List ℕ) → len ≡ length c → record { tag = t; content = take len (c ++ rest) } ∷ split k (drop len (c ++ rest)) ≡ record { tag = t; content = c } ∷ split k rest
cut k t len c rest e = rw (e, take-append_seam, drop-append_seam)

split-field : (k t : ℕ) (c rest : List ℕ) → length c < 65536 → split (suc k) (field t c ++ rest) ≡ record { tag = t; content = c } ∷ split k rest
unfolding split low_first bytes
split-field k t c rest h = cut k t (low_first (bytes 2 (length c))) c rest (number-bytes 2 (length c) h)

pub split-join : (fs : List Field) (k : ℕ) → Short fs → length fs ≤ k → split k (join fs) ≡ fs
unfolding split join
split-join [] zero s h = refl
split-join [] (suc k) s h = refl
split-join (f ∷ fs) zero s h = absurd (omega arith)
split-join (f ∷ fs) (suc k) s h = split-field k f.tag f.content (join fs) s.0 ∙ ap (λ (r : List Field). f ∷ r) (split-join fs k s.1 (omega arith))
