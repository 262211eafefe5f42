-- The searches: the index is in range and holds the largest, the first of equals, it is the only one where the search is untied, and
-- search and tie go along with a bijection of the positions.
use mathlib.Core.Path.{◌≡◌, refl, sym, ap, ◌∙◌, subst}
use mathlib.Core.List.{List}
use mathlib.Core.Bool.{Bool, true, false, false≢true}
use Prim.Native.Nat.{ℕ, suc, ◌≤◌, ◌<◌}
use native.Mathlib.Decide.{ℕ_discrete}
use native.Mathlib.Omega.{arith}
use lib.ListN.{length, get_or}
use lib.Dec.{ltb}
use borrow.Author.Tests.{ltb-true, ltb-false}
use lib.Ieee.{Float, nan, lt, eq, is_nan}
use Rattle.arithmetic.proofs.LoopLaws.{range-ind}
use Rattle.arithmetic.proofs.OrderLaws.{lt-irreflexive, lt-transitive, lt-cotransitive, lt-total, eq_not_lt, eq_symmetric}
use Rattle.matrix.specs.Search.{key, look, best_of, tally, count_equal, largest}
use Rattle.matrix.specs.declared.utils.Best.{Best}
use Rattle.arithmetic.proofs.Cases.{Is, is, holds, fails, same_tests, not_holds}
use Rattle.matrix.proofs.Bijection.{Bijection, inverse, Along, along_inverse}

-- what a search compares at position i
abbrev pub candidate : Bool → List Float → ℕ → Float
candidate magnitude c i = key magnitude (get_or c i nan)

-- no candidate is NaN
abbrev pub Numbers : (ℕ → Float) → ℕ → Type 0
Numbers f k = (i : ℕ) → i < k → is_nan (f i) ≡ false

-- u holds the largest of f 0 to f (k - 1)
pub record Top (f : ℕ → Float) (k u : ℕ) : Type 0 where
  pub below : u < k
  pub top : (i : ℕ) → i < k → lt (f u) (f i) ≡ false

pub record TwoTops (f : ℕ → Float) (k : ℕ) : Type 0 where
  pub u : ℕ
  pub v : ℕ
  pub at_u : Top f k u
  pub at_v : Top f k v
  pub differ : u ≡ v → ⊥

-- ---- the search
record BestTo (f : ℕ → Float) (k t : ℕ) (s : Best) : Type 0 where
  below : s.index < k
  value : s.max ≡ f s.index
  top : (i : ℕ) → i < t → lt s.max (f i) ≡ false

module _ (magnitude : Bool) (c : List Float) (h : 0 < length c) where
  abbrev f : ℕ → Float
  f i = candidate magnitude c i

  look-step : (i : ℕ) → 0 ≤ i → i < length c → (s : Best) → BestTo f (length c) i s → BestTo f (length c) (suc i) (look magnitude c i s)
  unfolding look
  look-step i z q s B = go (is (lt s.max (f i)))
    where
      go : Is (lt s.max (f i)) → BestTo f (length c) (suc i) (look magnitude c i s)
      go (holds e) = rw e (record {
        below = q;
        value = refl;
        top = λ k v. elim (ℕ_discrete k i) [
          | yes w ↦ rw w (lt-irreflexive (f i))
          | no w ↦ not_holds (lt (f i) (f k)) (λ g. false≢true (sym (B.top k (omega arith)) ∙ lt-transitive s.max (f i) (f k) e g))
        ];
      })
      go (fails e) = rw e (record {
        below = B.below;
        value = B.value;
        top = λ k v. elim (ℕ_discrete k i) [ yes w ↦ rw w e | no w ↦ B.top k (omega arith) ];
      })

  best_is : BestTo f (length c) (length c) (best_of magnitude c)
  unfolding best_of
  best_is = range-ind (BestTo f (length c)) 0 (length c) (look magnitude c) _ (omega arith) (record { below = h; value = refl; top = λ i q. absurd (omega arith) }) look-step

  -- the index is in range, and holds the largest
  pub largest-top : Top f (length c) (largest magnitude c).index
  unfolding largest
  largest-top = let B = best_is in
      record { below = B.below; top = λ i q. subst (λ (x : Float). lt x (f i) ≡ false) B.value (B.top i q) }

-- ---- the first of equals: every candidate before the index is smaller
module _ (magnitude : Bool) (c : List Float) (h : 0 < length c) (nn : Numbers (candidate magnitude c) (length c)) where
  record FirstTo (t : ℕ) (s : Best) : Type 0 where
    within : s.index < suc t
    top : (i : ℕ) → i < t → lt s.max (candidate magnitude c i) ≡ false
    earlier : (i : ℕ) → i < s.index → lt (candidate magnitude c i) s.max ≡ true

  first_step : (i : ℕ) → 0 ≤ i → i < length c → (s : Best) → FirstTo i s → FirstTo (suc i) (look magnitude c i s)
  unfolding look
  first_step i z q s F = go (is (lt s.max (candidate magnitude c i)))
    where
      go : Is (lt s.max (candidate magnitude c i)) → FirstTo (suc i) (look magnitude c i s)
      go (holds e) = rw e (record {
        within = omega arith;
        top = λ k v. elim (ℕ_discrete k i) [
          | yes w ↦ rw w (lt-irreflexive (candidate magnitude c i))
          | no w ↦ not_holds (lt (candidate magnitude c i) (candidate magnitude c k)) (λ g. false≢true (sym (F.top k (omega arith)) ∙ lt-transitive s.max (candidate magnitude c i) (candidate magnitude c k) e g))
        ];
        earlier = λ k v. lt-cotransitive s.max (candidate magnitude c k) (candidate magnitude c i) (nn k (omega arith)) e (F.top k v);
      })
      go (fails e) = rw e (record {
        within = omega (arith, F.within);
        top = λ k v. elim (ℕ_discrete k i) [ yes w ↦ rw w e | no w ↦ F.top k (omega arith) ];
        earlier = F.earlier;
      })

  first-is : FirstTo (length c) (best_of magnitude c)
  unfolding best_of
  first-is = range-ind FirstTo 0 (length c) (look magnitude c) _ (omega arith) (record { within = omega arith; top = λ i q. absurd (omega arith); earlier = λ i q. absurd (omega arith) }) first_step

  pub largest-first : (i : ℕ) → i < (largest magnitude c).index → lt (candidate magnitude c i) (candidate magnitude c (largest magnitude c).index) ≡ true
  unfolding largest
  largest-first i q = subst (λ (x : Float). lt (candidate magnitude c i) x ≡ true) (best_is magnitude c h).value (first-is.earlier i q)

-- ---- the count of candidates that equal x: none, one, or two at least
data Counted (f : ℕ → Float) (x : Float) (t count : ℕ) : Type 0 where
  none : count ≡ 0 → ((i : ℕ) → i < t → eq x (f i) ≡ true → ⊥) → Counted f x t count
  one : (u : ℕ) → count ≡ 1 → ((i : ℕ) → i < t → eq x (f i) ≡ true → i ≡ u) → u < t → eq x (f u) ≡ true → Counted f x t count
  many : (u v : ℕ) → 1 < count → u < t → v < t → (u ≡ v → ⊥) → eq x (f u) ≡ true → eq x (f v) ≡ true → Counted f x t count

tally-step : (magnitude : Bool) (c : List Float) (x : Float) (i : ℕ) → (count : ℕ) → Counted (candidate magnitude c) x i count → Counted (candidate magnitude c) x (suc i) (tally magnitude c x i count)
unfolding tally
tally-step magnitude c x i count C = go (is (eq x (f i))) C
  where
    f : ℕ → Float
    f = candidate magnitude c

    go : Is (eq x (f i)) → Counted f x i count → Counted f x (suc i) (tally magnitude c x i count)
    go (holds e) (none z g) = rw e (one i (omega arith) (λ k v w. elim (ℕ_discrete k i) [ yes d ↦ d | no d ↦ absurd (g k (omega arith) w) ]) (omega arith) e)
    go (holds e) (one u z g l w) = rw e (many u i (omega arith) (omega arith) (omega arith) (λ d. omega arith) w e)
    go (holds e) (many u v z lu lv d wu wv) = rw e (many u v (omega arith) (omega arith) (omega arith) d wu wv)
    go (fails e) (none z g) = rw e (none z (λ k v w. elim (ℕ_discrete k i) [ yes d ↦ false≢true (sym e ∙ subst (λ (j : ℕ). eq x (f j) ≡ true) d w) | no d ↦ g k (omega arith) w ]))
    go (fails e) (one u z g l w) = rw e (one u z (λ k v o. elim (ℕ_discrete k i) [ yes d ↦ absurd (false≢true (sym e ∙ subst (λ (j : ℕ). eq x (f j) ≡ true) d o)) | no d ↦ g k (omega arith) o ]) (omega arith) w)
    go (fails e) (many u v z lu lv d wu wv) = rw e (many u v z (omega arith) (omega arith) d wu wv)

counted : (magnitude : Bool) (c : List Float) (x : Float) → Counted (candidate magnitude c) x (length c) (count_equal magnitude c x)
unfolding count_equal
counted magnitude c x = range-ind (Counted (candidate magnitude c) x) 0 (length c) (tally magnitude c x) 0 (omega arith) (none refl (λ i q. absurd (omega arith))) (λ i p q count C. tally-step magnitude c x i count C)

-- ---- tied: two tops
module _ (magnitude : Bool) (c : List Float) (h : 0 < length c) (nn : Numbers (candidate magnitude c) (length c)) where
  abbrev x : Float
  x = (best_of magnitude c).max

  number : is_nan x ≡ false
  number = let B = best_is magnitude c h in subst (λ (v : Float). is_nan v ≡ false) (sym B.value) (nn _ B.below)

  eq_of_top : (u : ℕ) → Top (candidate magnitude c) (length c) u → eq x (candidate magnitude c u) ≡ true
  eq_of_top u U = let B = best_is magnitude c h in
      lt-total x (candidate magnitude c u) number (nn u U.below) (B.top u U.below)
      (subst (λ (v : Float). lt (candidate magnitude c u) v ≡ false) (sym B.value) (U.top _ B.below))

  top_of_eq : (u : ℕ) → u < length c → eq x (candidate magnitude c u) ≡ true → Top (candidate magnitude c) (length c) u
  top_of_eq u q e = let B = best_is magnitude c h in record {
    below = q;
    top = λ i s. not_holds (lt (candidate magnitude c u) (candidate magnitude c i)) (λ w. false≢true (sym (B.top i s)
        ∙ lt-cotransitive (candidate magnitude c u) x (candidate magnitude c i) number w (eq_not_lt (candidate magnitude c u) x (eq_symmetric x (candidate magnitude c u) e))));
  }

  tied_is : (largest magnitude c).tied ≡ ltb 1 (count_equal magnitude c x)
  unfolding largest
  tied_is = refl

  pub tied-two : (largest magnitude c).tied ≡ true → TwoTops (candidate magnitude c) (length c)
  tied-two e = go (counted magnitude c x)
    where
      l : 1 < count_equal magnitude c x
      l = ltb-true 1 (count_equal magnitude c x) (sym tied_is ∙ e)

      go : Counted (candidate magnitude c) x (length c) (count_equal magnitude c x) → TwoTops (candidate magnitude c) (length c)
      go (none z k) = absurd (omega (arith, l))
      go (one u z k lu w) = absurd (omega (arith, l))
      go (many u v z lu lv d wu wv) = record { u = u; v = v; at_u = top_of_eq u lu wu; at_v = top_of_eq v lv wv; differ = d }

  -- untied: there is only one
  pub one-top : (largest magnitude c).tied ≡ false → (u v : ℕ) → Top (candidate magnitude c) (length c) u → Top (candidate magnitude c) (length c) v → u ≡ v
  one-top e u v U W = go (counted magnitude c x)
    where
      l : count_equal magnitude c x ≤ 1
      l = ltb-false 1 (count_equal magnitude c x) (sym tied_is ∙ e)

      go : Counted (candidate magnitude c) x (length c) (count_equal magnitude c x) → u ≡ v
      go (none z k) = absurd (k u U.below (eq_of_top u U))
      go (one w z k lw o) = k u U.below (eq_of_top u U) ∙ sym (k v W.below (eq_of_top v W))
      go (many p q z lp lq d wp wq) = absurd (omega (arith, l))

  pub two-tied : TwoTops (candidate magnitude c) (length c) → (largest magnitude c).tied ≡ true
  two-tied W = go (is (largest magnitude c).tied)
    where
      go : Is (largest magnitude c).tied → (largest magnitude c).tied ≡ true
      go (holds e) = e
      go (fails e) = absurd (W.differ (one-top e W.u W.v W.at_u W.at_v))

-- ---- along a bijection
module _ (k : ℕ) (σ τ : ℕ → ℕ) (f g : ℕ → Float) (B : Bijection 0 k σ τ) (A : Along 0 k σ f g) where
  pub top_along : (u : ℕ) → Top g k u → Top f k (σ u)
  top_along u U = record {
    below = B.to_high u (omega arith) U.below;
    top = λ i q. subst (λ (x : Float). lt x (f i) ≡ false) (A u (omega arith) U.below)
        (subst (λ (x : Float). lt (g u) x ≡ false) (A (τ i) (omega arith) (B.from-high i (omega arith) q) ∙ ap f (B.to_from i (omega arith) q)) (U.top (τ i) (B.from-high i (omega arith) q)));
  }

  two-along : TwoTops g k → TwoTops f k
  two-along W = record {
    u = σ W.u;
    v = σ W.v;
    at_u = top_along W.u W.at_u;
    at_v = top_along W.v W.at_v;
    differ = λ e. W.differ (sym (B.from-to W.u (omega arith) W.at_u.below) ∙ ap τ e ∙ B.from-to W.v (omega arith) W.at_v.below);
  }

  numbers-along : Numbers f k → Numbers g k
  numbers-along nn i q = subst (λ (x : Float). is_nan x ≡ false) (sym (A i (omega arith) q)) (nn (σ i) (B.to_high i (omega arith) q))

-- two lists of k candidates, the second through σ: tied alike, and untied the searches find corresponding positions
module _ (magnitude : Bool) (k : ℕ) (σ τ : ℕ → ℕ) (c d : List Float) (lc : length c ≡ k) (ld : length d ≡ k) (h : 0 < k) (B : Bijection 0 k σ τ)
    (A : Along 0 k σ (candidate magnitude c) (candidate magnitude d)) (nn : Numbers (candidate magnitude c) k) where
  hc : 0 < length c
  hc = omega arith

  hd : 0 < length d
  hd = omega arith

  nc : Numbers (candidate magnitude c) (length c)
  nc = subst (λ (n : ℕ). Numbers (candidate magnitude c) n) (sym lc) nn

  nd : Numbers (candidate magnitude d) (length d)
  nd = subst (λ (n : ℕ). Numbers (candidate magnitude d) n) (sym ld) (numbers-along k σ τ (candidate magnitude c) (candidate magnitude d) B A nn)

  pub tied-along : (largest magnitude c).tied ≡ (largest magnitude d).tied
  tied-along = same_tests _ _
      (λ e. two-tied magnitude d hd nd (subst (TwoTops (candidate magnitude d)) (sym ld)
      (two-along k τ σ (candidate magnitude d) (candidate magnitude c) (inverse B) (along_inverse (candidate magnitude c) (candidate magnitude d) B A) (subst (TwoTops (candidate magnitude c)) lc (tied-two magnitude c hc nc e)))))
      (λ e. two-tied magnitude c hc nc (subst (TwoTops (candidate magnitude c)) (sym lc)
      (two-along k σ τ (candidate magnitude c) (candidate magnitude d) B A (subst (TwoTops (candidate magnitude d)) ld (tied-two magnitude d hd nd e)))))

  pub index_along : (largest magnitude c).tied ≡ false → σ (largest magnitude d).index ≡ (largest magnitude c).index
  index_along e = one-top magnitude c hc nc e (σ (largest magnitude d).index) (largest magnitude c).index
      (subst (λ (n : ℕ). Top (candidate magnitude c) n (σ (largest magnitude d).index)) (sym lc)
      (top_along k σ τ (candidate magnitude c) (candidate magnitude d) B A (largest magnitude d).index (subst (λ (n : ℕ). Top (candidate magnitude d) n (largest magnitude d).index) ld (largest-top magnitude d hd))))
      (largest-top magnitude c hc)
