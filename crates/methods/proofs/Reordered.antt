-- Amounts put back in the order of the original rows: e[p[i]] = ec[i].
use mathlib.Core.Path.{◌≡◌, sym, ap, ◌∙◌}
use mathlib.Core.List.{List}
use Prim.Native.Nat.{ℕ, ◌<◌}
use native.Mathlib.Decide.{ℕ_discrete}
use native.Mathlib.Omega.{arith}
use lib.ListN.{length, get_or, set, length-set}
use lib.Seq.{get_or-set_same, get_or-set_other}
use lib.Ieee.{Float, nan}
use Rattle.arithmetic.proofs.LoopLaws.{range-ind}
use Rattle.matrix.proofs.Bijection.{Bijection}
use Rattle.methods.specs.Statements.{reorder}

-- p lists 0 to n - 1, each once: q is its inverse
abbrev pub Order : ℕ → List ℕ → (ℕ → ℕ) → Type 0
Order n p q = Bijection 0 n (λ t. get_or p t 0) q

record PutTo (n : ℕ) (p : List ℕ) (ec : List Float) (t : ℕ) (e : List Float) : Type 0 where
  len : length e ≡ n
  done : (i : ℕ) → i < t → get_or e (get_or p i 0) nan ≡ get_or ec i nan

reordered : (n : ℕ) (p : List ℕ) (q : ℕ → ℕ) (ec : List Float) → Order n p q → length ec ≡ n → PutTo n p ec n (reorder n p ec)
unfolding reorder
reordered n p q ec P h = range-ind (PutTo n p ec) 0 n (λ i e. set e (get_or p i 0) (get_or ec i nan)) ec (omega arith)
    (record { len = h; done = λ i k. absurd (omega arith) })
    (λ i u w e I. record {
      len = length-set e (get_or p i 0) (get_or ec i nan) ∙ I.len;
      done = λ k v. elim (ℕ_discrete k i) [
        | yes d ↦ rw d (get_or-set_same e (get_or p i 0) (get_or ec i nan) nan (omega (arith, I.len, P.to_high i u w)))
        | no d ↦ get_or-set_other e (get_or p i 0) (get_or p k 0) (get_or ec i nan) nan
            (λ x. d (sym (P.from-to k (omega arith) (omega arith)) ∙ ap q x ∙ P.from-to i u w)) ∙ I.done k (omega arith)
      ];
    })

pub reorder-at : (n : ℕ) (p : List ℕ) (q : ℕ → ℕ) (ec : List Float) → Order n p q → length ec ≡ n → (t : ℕ) → t < n → get_or (reorder n p ec) (get_or p t 0) nan ≡ get_or ec t nan
reorder-at n p q ec P h = (reordered n p q ec P h).done

-- the second run's amount of row r is the first one's of row s r
pub reorder-along : (n : ℕ) (s : ℕ → ℕ) (pA pB : List ℕ) (qA qB : ℕ → ℕ) (ec : List Float) → Order n pA qA → Order n pB qB → length ec ≡ n
    → ((t : ℕ) → t < n → get_or pA t 0 ≡ s (get_or pB t 0)) → (r : ℕ) → r < n → get_or (reorder n pB ec) r nan ≡ get_or (reorder n pA ec) (s r) nan
reorder-along n s pA pB qA qB ec PA PB h own r pr =
    let tn : qB r < n = PB.from-high r (omega arith) pr in
    let e : get_or pB (qB r) 0 ≡ r = PB.to_from r (omega arith) pr in
    ap (λ (k : ℕ). get_or (reorder n pB ec) k nan) (sym e)
    ∙ reorder-at n pB qB ec PB h (qB r) tn
    ∙ sym (reorder-at n pA qA ec PA h (qB r) tn)
    ∙ ap (λ (k : ℕ). get_or (reorder n pA ec) k nan) (own (qB r) tn ∙ ap s e)
