-- Circles on bytes: what their operands are, that centres and radii can be written, and what is then answered.
use mathlib.Core.Path.{◌≡◌, ap, ◌∙◌}
use mathlib.Core.List.{List}
use mathlib.Core.Bool.{true}
use Prim.Native.Nat.{ℕ, ◌+◌, ◌*◌, ◌<◌}
use native.Mathlib.Decide.{ℕ_discrete}
use native.Mathlib.Numerals.{add-one}
use native.Mathlib.Omega.{arith}
use lib.ListN.{length, get_or, set, length-set, length-replicate, get_or-replicate}
use lib.Seq.{get_or-set_same, get_or-set_other}
use lib.Ieee.{Float, nan}
use lib.Ieee.Scale.{finite}
use Rattle.arithmetic.specs.Double.{plus_zero, plus_zero_is}
use Rattle.arithmetic.specs.Outcome.{complete}
use Rattle.arithmetic.specs.Outcome.{Outcome}
use Rattle.arithmetic.proofs.Cases.{is, holds, fails}
use Rattle.arithmetic.proofs.LoopLaws.{range-ind}
use Rattle.matrix.specs.Matrix.{Square, zeros}
use Rattle.matrix.specs.Checks.{check_finite, AllFinite}
use Rattle.matrix.proofs.CheckLaws.{Accepted, both_accepted, size_accepted, buffer_accepted, entries-accepted}
use Rattle.circles.specs.Circles.{CirclesCall, circles_call, centre, radius, overflow, set_to, set_each, gershgorin_circles}
use Rattle.circles.proofs.CircleLaws.{radius-finite}
use Rattle.encoding.specs.Bytes.{doubles, double_bytes}
use Rattle.encoding.specs.Writing.{over, EachFinite}
use Rattle.encoding.proofs.ByteLaws.{length-content}
use Rattle.encoding.proofs.Checked.{entries-length}
use Rattle.encoding.proofs.Doubles.{doubles-length}
use Rattle.encoding.proofs.Over.{over-all}
use Rattle.byte_helpers.specs.Helpers.{circles_bytes_call, circle_byte_checks, circles_of, gershgorin_circles_bytes_call}

-- ---- the operands
pub record CircleOperands (n : ℕ) (mat : List ℕ) (centres radii : ℕ) : Type 0 where
  pub mat-is : length mat ≡ 8 * (n * n)
  pub centres-are : centres ≡ 8 * n
  pub radii-are : radii ≡ 8 * n
  pub square : Square n (doubles mat)
  pub finite_entries : Accepted (check_finite n (doubles mat))

pub circle_accepted : (n : ℕ) (mat : List ℕ) (centres radii : ℕ) → Accepted (circle_byte_checks n mat centres radii) → CircleOperands n mat centres radii
circle_accepted n mat centres radii h =
    let f = both_accepted _ _ h in
    let r = both_accepted _ _ f.0 in
    let c = both_accepted _ _ r.0 in
    let m = both_accepted _ _ c.0 in
    let l = entries-length n (length mat) m.1 in
    record { mat-is = l; centres-are = buffer_accepted _ _ c.1; radii-are = buffer_accepted _ _ r.1; square = record { len = doubles-length mat ∙ omega arith; small = (size_accepted n m.0).1 }; finite_entries = f.1 }

-- ---- what is written
-- n of them, all finite
pub record Finished (n i : ℕ) (l : List Float) : Type 0 where
  pub len : length l ≡ n
  pub done : (k : ℕ) → k < i → finite (get_or l k nan) ≡ true

set-finite : (n i : ℕ) (l : List Float) (v : Float) → i < n → finite v ≡ true → Finished n i l → Finished n (i + 1) (set l i v)
set-finite n i l v h f F = record {
  len = length-set l i v ∙ F.len;
  done = λ k q. elim (ℕ_discrete k i) [ yes s ↦ rw s (ap finite (get_or-set_same l i v nan (omega (arith, F.len))) ∙ f) | no s ↦ ap finite (get_or-set_other l i k v nan s) ∙ F.done k (omega arith) ];
}

each_finite : (n : ℕ) (value : ℕ → Float) → ((i : ℕ) → i < n → finite (value i) ≡ true) → Finished n n (set_each value n (zeros n))
unfolding set_each set_to
each_finite n value f =
    range-ind (λ i l. Finished n i l) 0 n (set_to value) (zeros n) (omega arith) (record { len = length-replicate n plus_zero; done = λ k q. absurd (omega arith) })
    (λ i p q l F. rw (← add-one i) (set-finite n i l (value i) q (f i q) F))

zeros-finite : (n : ℕ) → Finished n n (zeros n)
zeros-finite n = record { len = length-replicate n plus_zero; done = λ k q. ap finite (get_or-replicate n k plus_zero nan q ∙ plus_zero_is) }

finished_each : (n : ℕ) (l : List Float) → Finished n n l → EachFinite l
finished_each n l F k q = F.done k (omega (arith, F.len))

circles-finished : (n : ℕ) (a : List Float) → AllFinite n a → let c = gershgorin_circles n a (zeros n) (zeros n) in Finished n n c.centres × Finished n n c.radii
circles-finished n a f = elim (is (complete (overflow n a))) [
  | holds c ↦ rw c (each_finite n (centre n a) (λ i q. f i i q q), each_finite n (radius n a) (λ i q. radius-finite n a c i q))
  | fails c ↦ rw c (zeros-finite n, zeros-finite n)
]

-- ---- the circles, worked out
module _ (n : ℕ) (mat centres radii : List ℕ) (h : Accepted (circle_byte_checks n mat (length centres) (length radii)))
    (o : Outcome) (a c₀ r₀ c r : List Float) (reads : a ≡ doubles mat) (ec : c₀ ≡ zeros n) (er : r₀ ≡ zeros n) (calls : circles_call o c r ≡ gershgorin_circles n a c₀ r₀) where
  these : circles_call o c r ≡ circles_of n mat
  these = rw (reads, ec, er) at calls

  pub circles-written : (Finished n n c × EachFinite c) × (Finished n n r × EachFinite r)
  circles-written =
      let O = circle_accepted n mat (length centres) (length radii) h in
      let F = circles-finished n (doubles mat) (entries-accepted n (doubles mat) O.square O.finite_entries) in
      let fc : Finished n n c = rw (ap (λ (x : CirclesCall). x.centres) these) F.0 in
      let fr : Finished n n r = rw (ap (λ (x : CirclesCall). x.radii) these) F.1 in
      ((fc, finished_each n c fc), (fr, finished_each n r fr))

  pub circles-answered : (centres' radii' : List ℕ) → centres' ≡ over centres 0 (double_bytes c) → radii' ≡ over radii 0 (double_bytes r) → circles_bytes_call o centres' radii' ≡ gershgorin_circles_bytes_call n mat centres radii
  circles-answered centres' radii' wc wr =
      let O = circle_accepted n mat (length centres) (length radii) h in
      let W = circles-written in
      let ec : centres' ≡ double_bytes c = wc ∙ over-all centres (double_bytes c) (length-content c ∙ omega (arith, W.0.0.len, O.centres-are)) in
      let er : radii' ≡ double_bytes r = wr ∙ over-all radii (double_bytes r) (length-content r ∙ omega (arith, W.1.0.len, O.radii-are)) in
      rw (h.is, ec, er) (ap (λ (x : CirclesCall). circles_bytes_call x.outcome (double_bytes x.centres) (double_bytes x.radii)) these)
