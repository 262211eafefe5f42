use borrow.Author.Rules.{rules}
use borrow.Author.Tests.{lt-ltb, le-ltb}
use mathlib.Core.Bool.{Bool, true, false, cond}
use mathlib.Core.List.{List}
use mathlib.Core.Path.{◌≡◌, refl, ◌∙◌}
use Prim.Native.Nat.{ℕ, zero, suc, ◌+◌, ◌-◌, ◌*◌, ◌≤◌, ◌<◌}
use native.Mathlib.Decide.{dec_le}
use native.Mathlib.Nat.{add-zero, add-suc, suc-mul, le_refl}
use native.Mathlib.Numerals.{add-one}
use native.Mathlib.Omega.{arith}
use lib.Arith.{digits_div, digits_mod}
use lib.Ieee.{Float}
use Rattle.arithmetic.proofs.FirstLaws.{First, first-is, first_found, first-none}
use Rattle.arithmetic.specs.First.{first, first_from}
use Rattle.std.specs.Prelude.{Ok, Err}
use Rattle.arithmetic.specs.declared.refusal.Refusal.TheVariants.{Unsymmetric}
use Rattle.matrix.proofs.CellLaws.{cell_lt}
use Rattle.matrix.specs.Checks.{unsymmetric, first_mismatch, first_unsymmetric, check_symmetric}
use Rattle.matrix.proofs.CheckLaws.{mismatch, unsymmetric-at}
use Rattle.matrix.proofs.checks.check_symmetric.Goals as goal

-- a search from a + b on is one from b on of what lies a further
shift : (bad : ℕ → Bool) (a b k : ℕ) → first_from bad (a + b) k ≡ a + first_from (λ j. bad (a + j)) b k
unfolding first_from
shift bad a b zero = refl
shift bad a b (suc k) = go (bad (a + b)) (rw add-suc at (shift bad a (suc b) k))
  where
    go : (t : Bool) → first_from bad (suc (a + b)) k ≡ a + first_from (λ j. bad (a + j)) (suc b) k
        → cond t (a + b) (first_from bad (suc (a + b)) k) ≡ a + cond t b (first_from (λ j. bad (a + j)) (suc b) k)
    go true e = refl
    go false e = e

mismatch_is : (n : ℕ) (m : List Float) (i : ℕ) → i < n → First (mismatch n m i) (i + 1) n (first_mismatch n m i)
unfolding first_mismatch
mismatch_is n m i h =
    let a = i + 1 in
    let F = first-is (λ j. mismatch n m i (a + j)) (n - a) in
    let e : first_mismatch n m i ≡ a + first (λ j. mismatch n m i (a + j)) (n - a) = (rw add-zero at (shift (mismatch n m i) a 0 (n - a))) in
    rw e
    (record {
      from = omega arith;
      most = omega (arith, F.most);
      good = λ t p q. (let s : a + (t - a) ≡ t = omega arith in rw s at (F.good (t - a) (omega arith) (omega arith)));
      here = λ l. F.here (omega arith);
    })

module _ (n : ℕ) (m : List Float) (i : ℕ) where
  -- the rows before i and the first j columns of row i
  before : (j : ℕ) → j ≤ n → ((k : ℕ) → k < i * n → unsymmetric n m k ≡ false) → ((t : ℕ) → i + 1 ≤ t → t < j → mismatch n m i t ≡ false)
      → (k : ℕ) → k < i * n + j → unsymmetric n m k ≡ false
  before j h rows row k l = elim (dec_le (i * n) k) [
    | no q ↦ rows k (omega arith)
    | yes p ↦ let s : i * n + (k - i * n) ≡ k = omega arith in rw s at (here (k - i * n) (omega arith))
  ]
    where
      here : (t : ℕ) → t < j → unsymmetric n m (i * n + t) ≡ false
      here t q = elim (dec_le t i) [
        | yes p ↦ unsymmetric-at n m i t (omega arith) ∙ rw (le-ltb i t p)
        | no p ↦ unsymmetric-at n m i t (omega arith) ∙ rw (lt-ltb i t (omega arith), row t (omega arith) (omega arith))
      ]

  one_more : i < n → ((k : ℕ) → k < i * n → unsymmetric n m k ≡ false) → n ≤ first_mismatch n m i → (k : ℕ) → k < (i + 1) * n → unsymmetric n m k ≡ false
  one_more h rows l =
      let e : (i + 1) * n ≡ i * n + n = rw (add-one, suc-mul) in
      rw e (before n (le_refl n) rows (λ t p q. (mismatch_is n m i h).good t p (omega arith)))

  found : i < n → ((k : ℕ) → k < i * n → unsymmetric n m k ≡ false) → first_mismatch n m i < n → Err (Unsymmetric i (first_mismatch n m i)) ≡ check_symmetric n m
  found h rows l =
      let F = mismatch_is n m i h in
      let j = first_mismatch n m i in
      let u : unsymmetric n m (i * n + j) ≡ true = unsymmetric-at n m i j l ∙ rw (lt-ltb i j (omega (arith, F.from)), F.here l) in
      let e : first_unsymmetric n m ≡ i * n + j = first_found (unsymmetric n m) (n * n) (i * n + j) (cell_lt n i j h l) u (before j F.most rows F.good) in
      rw (e, lt-ltb (i * n + j) (n * n) (cell_lt n i j h l), digits_div i l, digits_mod i l)

none : (n : ℕ) (m : List Float) → ((k : ℕ) → k < n * n → unsymmetric n m k ≡ false) → Ok tt ≡ check_symmetric n m
none n m rows = rw (first-none (unsymmetric n m) (n * n) rows, le-ltb (n * n) (n * n) (le_refl (n * n)))

pub returns-then-j-n : goal.returns-then-j-n
returns-then-j-n c =
    let t = c.before.before in
    let e = c.first_mismatch-j.ensures in
    rw e (found _ _ _ t.loop-i-test.true t.loop-i.invariant.1 (rw e at c.if-j-n.true))

pub loop-i-preserved : goal.loop-i-preserved
loop-i-preserved c =
    let t = c.before.before in
    (search rules, one_more _ _ _ t.loop-i-test.true t.loop-i.invariant.1 (rw c.first_mismatch-j.ensures at c.if-j-n.false))

pub returns : goal.returns
returns c =
    let l = c.loop-i in
    let a = c.args in
    let e : l.i ≡ a.n = omega arith in
    none a.n a.m.now (rw e at l.invariant.1)
