-- The pivot searches of two runs. Without numbers the first of equals corresponds unless it is tied, or where the second run looks at it first;
-- with numbers that moved with their contracts the searches always correspond.
use mathlib.Core.Path.{◌≡◌, refl, sym, ap, ◌∙◌, subst}
use mathlib.Core.List.{List, []}
use mathlib.Core.Bool.{Bool, true, false, false≢true}
use Prim.Native.Nat.{ℕ, ◌+◌, ◌-◌, ◌≤◌, ◌<◌}
use native.Mathlib.Nat.{add-zero}
use native.Mathlib.Decide.{dec_lt}
use native.Mathlib.Omega.{arith}
use lib.ListN.{length, get_or, drop, length-drop}
use lib.Ieee.{Float, nan, is_nan}
use Rattle.matrix.specs.Matrix.{at}
use Rattle.matrix.specs.Search.{key, largest}
use Rattle.matrix.proofs.TableLaws.{get_or-table}
use Rattle.matrix.specs.declared.utils.Found.{Found}
use Rattle.arithmetic.proofs.Cases.{Is, is, holds, fails}
use Rattle.matrix.proofs.Bijection.{Bijection, inverse, injective, bijection_from, counted, bijection_counted, Along, along_inverse}
use Rattle.matrix.proofs.SearchLaws.{candidate, Numbers, Top, largest-top, largest-first, top_along, tied-along, index_along}
use Rattle.methods.specs.Statements.{diagonal, number_at, smallest_number, pick}
use Rattle.methods.proofs.Moved.{Moved}
use Rattle.methods.proofs.Pivots.{length-diagonal, pick-below}
use Rattle.load_order.proofs.Positions.{Positions, Corresponding}
use Rattle.load_order.proofs.Smallest.{key-number, dropped, Smallest, smallest-is, smallest-along, pick-smallest}

-- what the two searches of step j found. May: whether ties may part the runs
pub data Picks (May : Type 0) (n : ℕ) (σ : ℕ → ℕ) (j : ℕ) (f g : Found) : Type 0 where
  correspond : f.tied ≡ g.tied → Corresponding n σ j f.index g.index → Picks May n σ j f g
  tied : May → f.tied ≡ true → g.tied ≡ true → Picks May n σ j f g

-- .. where the first search finds what the second looks at first, so does the second, tied or not
pub record PicksFirst (n : ℕ) (σ : ℕ → ℕ) (j : ℕ) (f g : Found) : Type 0 where
  pub below : j + f.index < n
  pub same-tie : f.tied ≡ g.tied
  pub picked : σ j ≡ j + f.index → g.index ≡ 0

-- the tie is that of the search without numbers
pick-tied : (numbers p : List ℕ) (magnitude : Bool) (u : List Float) (j : ℕ) → (pick numbers p magnitude u j).tied ≡ (largest magnitude (drop j u)).tied
unfolding pick
pick-tied numbers p magnitude u j = refl

-- what the two searches of step j look at: v is u with its positions moved by σ
pub record Searched (n : ℕ) (σ : ℕ → ℕ) (j : ℕ) (u v : List Float) : Type 0 where
  pub length_a : length u ≡ n
  pub length_b : length v ≡ n
  pub moved : (i : ℕ) → i < n → get_or v i nan ≡ get_or u (σ i) nan
  pub numbers : (i : ℕ) → j ≤ i → i < n → is_nan (get_or u i nan) ≡ false

-- numbers that moved with their contracts, no two equal; s is the load order
pub record Renumbered (n : ℕ) (s : ℕ → ℕ) (first second : List ℕ) : Type 0 where
  pub length_a : length first ≡ n
  pub length_b : length second ≡ n
  pub along : (i : ℕ) → i < n → get_or second i 0 ≡ get_or first (s i) 0
  pub once : (x y : ℕ) → x < n → y < n → get_or first x 0 ≡ get_or first y 0 → x ≡ y

module _ (magnitude : Bool) (n j : ℕ) {s : ℕ → ℕ} {p q : List ℕ} (L : Positions n s j p q) (u v : List Float) (pj : j < n) (S : Searched n L.σ j u v) where
  abbrev σ : ℕ → ℕ
  σ = L.σ

  abbrev τ : ℕ → ℕ
  τ = L.τ

  from : Bijection j n σ τ
  from = bijection_from n j σ τ L.bijection L.fixes

  relative : Bijection 0 (n - j) (counted j σ) (counted j τ)
  relative = bijection_counted n j σ τ from

  along : Along 0 (n - j) (counted j σ) (candidate magnitude (drop j u)) (candidate magnitude (drop j v))
  along i p q =
      let l : j ≤ σ (j + i) = from.to_low (j + i) (omega arith) (omega arith) in
      let e : j + counted j σ i ≡ σ (j + i) = omega arith in
      dropped magnitude j v i ∙ ap (key magnitude) (S.moved (j + i) (omega arith) ∙ ap (λ (x : ℕ). get_or u x nan) (sym e)) ∙ sym (dropped magnitude j u (counted j σ i))

  numbers : Numbers (candidate magnitude (drop j u)) (n - j)
  numbers i q = rw (dropped magnitude j u i) (key-number magnitude (get_or u (j + i) nan) (S.numbers (j + i) (omega arith) (omega arith)))

  left-u : length (drop j u) ≡ n - j
  left-u = omega (arith, length-drop j u, S.length_a)

  left-v : length (drop j v) ≡ n - j
  left-v = omega (arith, length-drop j v, S.length_b)

  same-largest : (largest magnitude (drop j u)).tied ≡ (largest magnitude (drop j v)).tied
  same-largest = tied-along magnitude (n - j) (counted j σ) (counted j τ) (drop j u) (drop j v) left-u left-v (omega arith) relative along numbers

  same-tie : (first second : List ℕ) → (pick first p magnitude u j).tied ≡ (pick second q magnitude v j).tied
  same-tie first second = pick-tied first p magnitude u j ∙ same-largest ∙ sym (pick-tied second q magnitude v j)

  -- the two positions, counted from j, correspond
  matched : (first second : List ℕ) → counted j σ (pick second q magnitude v j).index ≡ (pick first p magnitude u j).index → Corresponding n σ j (pick first p magnitude u j).index (pick second q magnitude v j).index
  matched first second e =
      let h : j + (pick second q magnitude v j).index < n = pick-below second q magnitude v n j S.length_b pj in
      let l : j ≤ σ (j + (pick second q magnitude v j).index) = from.to_low (j + (pick second q magnitude v j).index) (omega arith) h in
      record { here = pj; first = pick-below first p magnitude u n j S.length_a pj; second = h; corresponds = omega (arith, e) }

  -- ---- without numbers
  same-position : (pick [] p magnitude u j).tied ≡ false → counted j σ (pick [] q magnitude v j).index ≡ (pick [] p magnitude u j).index
  unfolding pick
  same-position e = index_along magnitude (n - j) (counted j σ) (counted j τ) (drop j u) (drop j v) left-u left-v (omega arith) relative along numbers e

  pub first-of_equals : Picks Unit n σ j (pick [] p magnitude u j) (pick [] q magnitude v j)
  first-of_equals = go (is (pick [] p magnitude u j).tied)
    where
      go : Is (pick [] p magnitude u j).tied → Picks Unit n σ j (pick [] p magnitude u j) (pick [] q magnitude v j)
      go (holds e) = tied tt e (sym (same-tie [] []) ∙ e)
      go (fails e) = correspond (same-tie [] []) (matched [] [] (same-position e))

  -- the first position of the second run holds the largest
  numbers-v : Numbers (candidate magnitude (drop j v)) (n - j)
  numbers-v i q = rw (dropped magnitude j v i, S.moved (j + i) (omega arith))
      (key-number magnitude (get_or u (σ (j + i)) nan) (S.numbers (σ (j + i)) (from.to_low (j + i) (omega arith) (omega arith)) (from.to_high (j + i) (omega arith) (omega arith))))

  first-top : σ j ≡ j + (pick [] p magnitude u j).index → Top (candidate magnitude (drop j v)) (n - j) 0
  unfolding pick
  first-top e =
      let a = (largest magnitude (drop j u)).index in
      let z : counted j σ 0 ≡ a = ap (λ (x : ℕ). σ x - j) (add-zero j) ∙ omega (arith, e) in
      let t : Top (candidate magnitude (drop j u)) (n - j) a = subst (λ (k : ℕ). Top (candidate magnitude (drop j u)) k a) left-u (largest-top magnitude (drop j u) (omega (arith, left-u))) in
      subst (Top (candidate magnitude (drop j v)) (n - j)) (ap (counted j τ) (sym z) ∙ relative.from-to 0 (omega arith) (omega arith))
      (top_along (n - j) (counted j τ) (counted j σ) (candidate magnitude (drop j v)) (candidate magnitude (drop j u)) (inverse relative)
      (along_inverse (candidate magnitude (drop j u)) (candidate magnitude (drop j v)) relative along) a t)

  first-picked : σ j ≡ j + (pick [] p magnitude u j).index → (pick [] q magnitude v j).index ≡ 0
  unfolding pick
  first-picked e =
      let b = (largest magnitude (drop j v)).index in
      let h : 0 < length (drop j v) = omega (arith, left-v) in
      elim (dec_lt 0 b) [
        | yes l ↦ absurd (false≢true (sym ((first-top e).top b (omega (arith, left-v, (largest-top magnitude (drop j v) h).below))) ∙ largest-first magnitude (drop j v) h (subst (Numbers (candidate magnitude (drop j v))) (sym left-v) numbers-v) 0 l))
        | no l ↦ omega arith
      ]

  pub picks_first : PicksFirst n σ j (pick [] p magnitude u j) (pick [] q magnitude v j)
  picks_first = record { below = pick-below [] p magnitude u n j S.length_a pj; same-tie = same-tie [] []; picked = first-picked }

  -- ---- with numbers
  module _ (first second : List ℕ) (R : Renumbered n s first second) where
    number-along : Along 0 (n - j) (counted j σ) (λ i. number_at first p (j + i)) (λ i. number_at second q (j + i))
    number-along i z w =
        let l : j ≤ σ (j + i) = from.to_low (j + i) (omega arith) (omega arith) in
        let e : j + counted j σ i ≡ σ (j + i) = omega arith in
        R.along (get_or q (j + i) 0) (L.permuted_b.order.to_high (j + i) (omega arith) (omega arith))
        ∙ ap (λ (x : ℕ). get_or first x 0) (L.own (j + i) (omega arith)) ∙ ap (number_at first p) (sym e)

    number-once : (x y : ℕ) → x < n - j → y < n - j → number_at first p (j + x) ≡ number_at first p (j + y) → x ≡ y
    number-once x y px py e =
        let P = L.permuted_a.order in
        let h = R.once (get_or p (j + x) 0) (get_or p (j + y) 0) (P.to_high (j + x) (omega arith) (omega arith)) (P.to_high (j + y) (omega arith) (omega arith)) e in
        omega (arith, injective P (j + x) (j + y) (omega arith) (omega arith) (omega arith) (omega arith) h)

    smallest-position : counted j σ (pick second q magnitude v j).index ≡ (pick first p magnitude u j).index
    smallest-position = rw (pick-smallest second q magnitude v j (omega (arith, R.length_b)), pick-smallest first p magnitude u j (omega (arith, R.length_a)))
        (smallest-along (n - j) (counted j σ) (counted j τ) (candidate magnitude (drop j u)) (candidate magnitude (drop j v)) (λ i. number_at first p (j + i)) (λ i. number_at second q (j + i)) relative along number-along number-once _ _
        (subst (λ (k : ℕ). Smallest (candidate magnitude (drop j u)) (λ i. number_at first p (j + i)) k k (smallest_number (λ i. number_at first p (j + i)) magnitude (drop j u) (largest magnitude (drop j u)).index)) left-u
        (smallest-is (λ i. number_at first p (j + i)) magnitude (drop j u) (omega (arith, left-u)) (subst (Numbers (candidate magnitude (drop j u))) (sym left-u) numbers)))
        (subst (λ (k : ℕ). Smallest (candidate magnitude (drop j v)) (λ i. number_at second q (j + i)) k k (smallest_number (λ i. number_at second q (j + i)) magnitude (drop j v) (largest magnitude (drop j v)).index)) left-v
        (smallest-is (λ i. number_at second q (j + i)) magnitude (drop j v) (omega (arith, left-v)) (subst (Numbers (candidate magnitude (drop j v))) (sym left-v) numbers-v))))

    pub smallest-numbers : Picks ⊥ n σ j (pick first p magnitude u j) (pick second q magnitude v j)
    smallest-numbers = correspond (same-tie first second) (matched first second smallest-position)

-- .. of the diagonals of two matrices
module _ (magnitude : Bool) (n j : ℕ) {s : ℕ → ℕ} {p q : List ℕ} (L : Positions n s j p q) (A B : List Float) (pj : j < n) (M : Moved n L.σ A B)
    (nn : (i : ℕ) → j ≤ i → i < n → is_nan (at n A i i) ≡ false) where
  diagonals : Searched n L.σ j (diagonal n A) (diagonal n B)
  unfolding diagonal
  diagonals = record {
    length_a = length-diagonal n A;
    length_b = length-diagonal n B;
    moved = λ i q. get_or-table n (λ k. at n B k k) i nan q ∙ M.moved i i q q ∙ sym (get_or-table n (λ k. at n A k k) (L.σ i) nan (L.bijection.to_high i (omega arith) q));
    numbers = λ i p q. rw (get_or-table n (λ k. at n A k k) i nan q) (nn i p q);
  }

  pub diagonal-picks_first : PicksFirst n L.σ j (pick [] p magnitude (diagonal n A) j) (pick [] q magnitude (diagonal n B) j)
  diagonal-picks_first = picks_first magnitude n j L (diagonal n A) (diagonal n B) pj diagonals

-- the searches of a method's two runs, in step: `first` and `second` are the contracts' numbers, none where the lists are empty
pub record Searches (May : Type 0) (magnitude : Bool) (n : ℕ) (s : ℕ → ℕ) (first second : List ℕ) : Type 0 where
  pub picks : (j : ℕ) (p q : List ℕ) (L : Positions n s j p q) (A B : List Float) → j < n → Moved n L.σ A B → ((i : ℕ) → j ≤ i → i < n → is_nan (at n A i i) ≡ false)
      → Picks May n L.σ j (pick first p magnitude (diagonal n A) j) (pick second q magnitude (diagonal n B) j)

pub without_numbers : (magnitude : Bool) (n : ℕ) (s : ℕ → ℕ) → Searches Unit magnitude n s [] []
without_numbers magnitude n s = record { picks = λ j p q L A B pj M nn. first-of_equals magnitude n j L (diagonal n A) (diagonal n B) pj (diagonals magnitude n j L A B pj M nn) }

pub with_numbers : (magnitude : Bool) (n : ℕ) (s : ℕ → ℕ) (first second : List ℕ) → Renumbered n s first second → Searches ⊥ magnitude n s first second
with_numbers magnitude n s first second R = record { picks = λ j p q L A B pj M nn. smallest-numbers magnitude n j L (diagonal n A) (diagonal n B) pj (diagonals magnitude n j L A B pj M nn) first second R }
