-- Load order of two solve calls: the rows solved are the same, and each component is put back at its contract.
use mathlib.Core.Path.{◌≡◌, refl, sym, ap, ◌∙◌}
use mathlib.Core.Bool.{Bool, true, false, not, cond, false≢true}
use mathlib.Core.List.{List}
use Prim.Native.Nat.{ℕ, ◌<◌}
use native.Mathlib.Decide.{ℕ_discrete, dec_lt}
use native.Mathlib.Omega.{arith}
use lib.Dec.{ltb}
use lib.ListN.{length, get_or, set, length-set, length-replicate, get_or-replicate}
use lib.Seq.{get_or-set_same, get_or-set_other}
use lib.Ieee.{Float, nan}
use lib.Ieee.Scale.{finite}
use borrow.Author.Tests.{ltb-true, lt-ltb}
use Rattle.arithmetic.specs.Double.{plus_zero}
use Rattle.arithmetic.specs.Outcome.{complete, number, number_of, refuse, ◌then◌, Outcome}
use Rattle.std.specs.Prelude.{Ok, Err}
use Rattle.arithmetic.specs.declared.refusal.Refusal.TheVariants.{NotFinite}
use Rattle.arithmetic.proofs.Cases.{same_tests}
use Rattle.arithmetic.proofs.FirstLaws.{first-is}
use Rattle.arithmetic.proofs.LoopLaws.{range-ind, same-loops}
use Rattle.arithmetic.proofs.OutcomeLaws.{complete-is}
use Rattle.matrix.specs.Checks.{check_finite, not_finite, first_not_finite}
use Rattle.matrix.specs.Matrix.{zeros}
use Rattle.matrix.proofs.TableLaws.{length-table, get_or-table}
use Rattle.methods.specs.Reloading.{LoadOrder}
use Rattle.methods.proofs.LoadOrders.{position, order-bijection}
use Rattle.solve.specs.Checks.{check_order, check_lower, check_divisors}
use Rattle.solve.specs.Substitution.{Rows, forward_row, forward, backward, put_back, solve_call_of, solve, content_checks, solve_checks}
use Rattle.solve.proofs.Accepted.{order-passes}
use Rattle.load_order.specs.Solve.{reload_right, SamePivots, SolvedAlike, SolvedTheorem, AlikeSolvedTheorem}

-- ---- y[p[t]] is w[t]
module _ (n : ℕ) (p : List ℕ) (w : List Float) (P : LoadOrder n p) where
  record Put (t : ℕ) (y : List Float) : Type 0 where
    len : length y ≡ n
    done : (k : ℕ) → k < t → get_or y (get_or p k 0) nan ≡ get_or w k nan

  put-back_at : (t : ℕ) → t < n → get_or (put_back n p w) (get_or p t 0) nan ≡ get_or w t nan
  unfolding put_back
  put-back_at = (range-ind Put 0 n (λ t y. set y (get_or p t 0) (get_or w t nan)) (zeros n) (omega arith)
      (record { len = length-replicate n plus_zero; done = λ k h. absurd (omega arith) })
      (λ t u h y Y. record {
        len = length-set y (get_or p t 0) (get_or w t nan) ∙ Y.len;
        done = λ k q. elim (ℕ_discrete k t) [
          | yes e ↦ rw e (get_or-set_same y (get_or p t 0) (get_or w t nan) nan (omega (arith, P.below t h, Y.len)))
          | no d ↦ get_or-set_other y (get_or p t 0) (get_or p k 0) (get_or w t nan) nan (λ e. d (P.once k t (omega arith) h e)) ∙ Y.done k (omega arith)
        ];
      })).done

-- ---- chains of checks that both pass, or refuse by the same number
abbrev SameNumber : Outcome → Outcome → Type 0
SameNumber (Ok _) (Ok _) = Unit
SameNumber (Err r) (Err r') = number_of r ≡ number_of r'
SameNumber (Ok _) (Err r') = ⊥
SameNumber (Err r) (Ok _) = ⊥

itself : (o : Outcome) → SameNumber o o
itself (Ok _) = tt
itself (Err r) = refl

same_then : (o o' rest rest' : Outcome) → SameNumber o o' → SameNumber rest rest' → SameNumber (o then rest) (o' then rest')
same_then (Ok _) (Ok _) rest rest' e f = f
same_then (Err r) (Err r') rest rest' e f = e
same_then (Ok _) (Err r') rest rest' e f = absurd e
same_then (Err r) (Ok _) rest rest' e f = absurd e

same-refuse : (c : Bool) (i j i' j' : ℕ) → SameNumber (refuse c (NotFinite i j)) (refuse c (NotFinite i' j'))
same-refuse true i j i' j' = refl
same-refuse false i j i' j' = tt

some-bad : (m : List Float) (k : ℕ) → k < length m → not_finite m k ≡ true → ltb (first_not_finite m) (length m) ≡ true
some-bad m k l h = lt-ltb (first_not_finite m) (length m) (elim (dec_lt (first_not_finite m) (length m)) [
  | yes q ↦ q
  | no q ↦ absurd (false≢true (sym ((first-is (not_finite m) (length m)).good k (omega arith) (omega arith)) ∙ h))
])

-- ---- the right side loaded by s
module _ (n : ℕ) (s : List ℕ) (b : List Float) (S : LoadOrder n s) (B : length b ≡ n) where
  length-right : length (reload_right n s b) ≡ n
  length-right = length-table n _

  right-at : (i : ℕ) → i < n → get_or (reload_right n s b) i nan ≡ get_or b (get_or s i 0) nan
  right-at i h = get_or-table n _ i nan h

  -- where a component isn't finite
  to_right : ltb (first_not_finite b) (length b) ≡ true → ltb (first_not_finite (reload_right n s b)) (length (reload_right n s b)) ≡ true
  to_right h =
      let f = first_not_finite b in
      let l : f < n = omega (arith, ltb-true f (length b) h) in
      let T = order-bijection n s S in
      let q : position n s f < n = T.from-high f (omega arith) l in
      let e = right-at (position n s f) q ∙ ap (λ (k : ℕ). get_or b k nan) (T.to_from f (omega arith) l) in
      some-bad (reload_right n s b) (position n s f) (omega (arith, length-right)) (ap (λ (v : Float). not (finite v)) e ∙ (first-is (not_finite b) (length b)).here (omega arith))

  from-right : ltb (first_not_finite (reload_right n s b)) (length (reload_right n s b)) ≡ true → ltb (first_not_finite b) (length b) ≡ true
  from-right h =
      let f = first_not_finite (reload_right n s b) in
      let w : f < length (reload_right n s b) = ltb-true f (length (reload_right n s b)) h in
      let l : f < n = omega (arith, length-right) in
      some-bad b (get_or s f 0) (omega (arith, S.below f l)) (ap (λ (v : Float). not (finite v)) (sym (right-at f l)) ∙ (first-is (not_finite (reload_right n s b)) (length (reload_right n s b))).here w)

  same-finite : SameNumber (check_finite 1 b) (check_finite 1 (reload_right n s b))
  same-finite = rw (same_tests _ _ to_right from-right) (same-refuse _ _ _ _ _)

-- ---- the two calls
order-complete : (n : ℕ) (p : List ℕ) → LoadOrder n p → check_order n p ≡ Ok tt
order-complete n p P = complete-is (check_order n p) (order-passes n p (λ k h. P.below k (omega (arith, P.len))) (record { once = λ i k h l. P.once i k (omega (arith, P.len)) (omega (arith, P.len)) })).is

module _ (n : ℕ) (l : List Float) (s p p' : List ℕ) (b : List Float) (S : LoadOrder n s) (P : LoadOrder n p) (Q : SamePivots n s p p') (B : length b ≡ n) where
  second-order : LoadOrder n p'
  second-order = record { len = Q.len; below = Q.below; once = λ i k h l e. P.once i k h l (Q.contracts i h ∙ ap (λ (j : ℕ). get_or s j 0) e ∙ sym (Q.contracts k l)) }

  same-content : SameNumber (content_checks n l p b) (content_checks n l p' (reload_right n s b))
  same-content = rw (order-complete n p P, order-complete n p' second-order) (same_then _ _ _ _ (same_then _ _ _ _ (itself (check_lower n l)) (same-finite n s b S B)) (itself (check_divisors n l)))

  same-checks : (y y' : ℕ) → y ≡ n → y' ≡ n → SameNumber (solve_checks n l y p b) (solve_checks n l y' p' (reload_right n s b))
  same-checks y y' e e' = same_then _ _ _ _ (rw (e, e', P.len, Q.len, B, length-right n s b S B) (itself _)) same-content

  forward-same : forward n l p b ≡ forward n l p' (reload_right n s b)
  unfolding forward forward_row
  forward-same = same-loops 0 n (forward_row n l p b) (forward_row n l p' (reload_right n s b)) _ (omega arith) (λ t u h r. rw (right-at n s b S B (get_or p' t 0) (Q.below t h), ← Q.contracts t h))

  outcome-same : (solve n l p b).outcome ≡ (solve n l p' (reload_right n s b)).outcome
  unfolding solve
  outcome-same = rw forward-same

  component : (w : List Float) (i : ℕ) → i < n → get_or (put_back n p' w) i nan ≡ get_or (put_back n p w) (get_or s i 0) nan
  component w i h =
      let T = order-bijection n p' second-order in
      let t = position n p' i in
      let q : t < n = T.from-high i (omega arith) h in
      let e : get_or p' t 0 ≡ i = T.to_from i (omega arith) h in
      ap (λ (k : ℕ). get_or (put_back n p' w) k nan) (sym e) ∙ put-back_at n p' w second-order t q ∙ sym (put-back_at n p w P t q)
      ∙ ap (λ (k : ℕ). get_or (put_back n p w) k nan) (Q.contracts t q ∙ ap (λ (k : ℕ). get_or s k 0) e)

  components : (i : ℕ) → i < n → get_or (solve n l p' (reload_right n s b)).y i nan ≡ get_or (solve n l p b).y (get_or s i 0) nan
  unfolding solve
  components i h = rw (← forward-same) (go (backward n l (forward n l p b)) (complete (backward n l (forward n l p b)).outcome))
    where
      go : (r : Rows) (c : Bool) → get_or (cond c (put_back n p' r.values) (zeros n)) i nan ≡ get_or (cond c (put_back n p r.values) (zeros n)) (get_or s i 0) nan
      go r true = component r.values i h
      go r false = get_or-replicate n i plus_zero nan h ∙ sym (get_or-replicate n (get_or s i 0) plus_zero nan (S.below i h))

pub solved : SolvedTheorem
solved n l s p p' b y y' S P Q B Y Y' = go _ _ (same-checks n l s p p' b S P Q B (length y) (length y') Y Y')
  where
    go : (o o' : Outcome) → SameNumber o o' → SolvedAlike n s o (cond (complete o) (solve n l p b) (solve_call_of o y)) (cond (complete o') (solve n l p' (reload_right n s b)) (solve_call_of o' y'))
    go (Ok _) (Ok _) e =
        let o = outcome-same n l s p p' b S P Q B in
        record { refusal = ap number o; outcome = λ h. o; components = λ h. components n l s p p' b S P Q B }
    go (Err r) (Err r') e = record { refusal = e; outcome = λ h. absurd (false≢true h); components = λ h. absurd (false≢true h) }
    go (Ok _) (Err r') e = absurd e
    go (Err r) (Ok _) e = absurd e

pub alike-solved : AlikeSolvedTheorem
alike-solved n s first second b y y' S P P' B Y Y' A e =
    rw (← A.factors) (solved n first.l s first.p second.p b y y' S P (record { len = P'.len; below = P'.below; contracts = A.pivots e }) B Y Y')
