-- What chains of iterators and loops over the elements of a list come to, as searches and as loops over its positions.
use mathlib.Core.Path.{◌≡◌, refl, sym, ap, ◌∙◌}
use mathlib.Core.Bool.{Bool, true, false, cond, ◌&&◌}
use mathlib.Core.List.{List}
use Prim.Native.Nat.{ℕ, suc, ◌+◌, ◌-◌, ◌≤◌, ◌<◌}
use native.Mathlib.Decide.{dec_lt}
use native.Mathlib.Omega.{arith}
use lib.ListN.{length, get_or, take, drop, length-drop}
use lib.Seq.{take_all, length-take-le, get_or-take, get_or-drop}
use lib.Dec.{ltb}
use borrow.Author.Tests.{lt-ltb, le-ltb}
use Rattle.std.specs.List.{position, position_or_len, list_any, fold, count_by}
use Rattle.std.specs.Option.{unwrap_or}
use Rattle.std.proofs.lemmas.List.Sums.{position_or_len_is, fold_more}
use Rattle.std.proofs.lemmas.List.Folds.{list_any_at, list_any_none}
use Rattle.std.proofs.lemmas.List.Elements.{All-from_get_or}
use Rattle.arithmetic.specs.All.{all}
use Rattle.arithmetic.specs.First.{first}
use Rattle.arithmetic.specs.Loop.{range}
use Rattle.arithmetic.proofs.FirstLaws.{first-is, same_first}
use Rattle.arithmetic.proofs.LoopLaws.{range-ind, same-loops}

-- `.position(p).unwrap_or(n)` of n elements is the first position that passes
pub first_position : {A : Type 0} (p : A → Bool) (xs : List A) (d : A) (n : ℕ) → length xs ≡ n → unwrap_or (position p xs) n ≡ first (λ k. p (get_or xs k d)) n
first_position p xs d n e = rw (← e) (elim (dec_lt (position_or_len p xs) (length xs)) [
  | yes h ↦ rw (lt-ltb _ _ h) is
  | no h ↦ rw (le-ltb (position_or_len p xs) (length xs) (omega arith)) (omega (arith, is, (first-is (λ k. p (get_or xs k d)) (length xs)).most))
])
  where
    is : position_or_len p xs ≡ first (λ k. p (get_or xs k d)) (length xs)
    is = let F = first-is (λ k. p (get_or xs k d)) (length xs) in position_or_len_is p xs _ d F.most (λ k h. F.good k (omega arith) h) F.here

-- .. and of `[..n]` the first position before n
pub first_position_before : {A : Type 0} (p : A → Bool) (xs : List A) (d : A) (n : ℕ) → n ≤ length xs → unwrap_or (position p (take n xs)) n ≡ first (λ k. p (get_or xs k d)) n
first_position_before p xs d n h =
    first_position p (take n xs) d n (length-take-le n xs h)
    ∙ same_first (λ k. p (get_or (take n xs) k d)) (λ k. p (get_or xs k d)) n (λ k l. ap p (get_or-take n xs k d l))

-- whether one before n passes
pub any_before : {A : Type 0} (p : A → Bool) (xs : List A) (d : A) (n : ℕ) → n ≤ length xs → list_any p (take n xs) ≡ ltb (first (λ k. p (get_or xs k d)) n) n
any_before {A} p xs d n h =
    let ys = take n xs in
    let len : length ys ≡ n = length-take-le n xs h in
    let r = first (λ k. p (get_or xs k d)) n in
    let F = first-is (λ k. p (get_or xs k d)) n in
    elim (dec_lt r n) [
      | yes q ↦ rw (lt-ltb r n q) (list_any_at p ys r d (omega (arith, len)) (ap p (get_or-take n xs r d q) ∙ F.here q))
      | no q ↦ rw (le-ltb r n (omega arith)) (list_any_none p ys (All-from_get_or (λ (x : A). p x ≡ false) ys d (λ k l.
          let m : k < n = omega (arith, len) in
          ap p (get_or-take n xs k d m) ∙ F.good k (omega arith) (omega arith))))
    ]

-- a fold over what a list has from a on is a loop from a
pub fold-range : {A S : Type 0} (f : S → A → S) (s : S) (xs : List A) (d : A) (a : ℕ) → a ≤ length xs
    → fold f s (drop a xs) ≡ range a (length xs) (λ i t. f t (get_or xs i d)) s
fold-range f s xs d a h =
    let ys = drop a xs in
    sym (ap (fold f s) (take_all (length xs - a) ys (omega (arith, length-drop a xs))))
    ∙ range-ind (λ i t. fold f s (take (i - a) ys) ≡ t) a (length xs) (λ i t. f t (get_or xs i d)) s h
    (let e : a - a ≡ 0 = omega arith in rw e refl)
    (λ i p q t e.
    let k : suc i - a ≡ i - a + 1 = omega arith in
    let g : get_or ys (i - a) d ≡ get_or xs i d = get_or-drop a xs (i - a) d ∙ (let j : a + (i - a) ≡ i = omega arith in rw j refl) in
    rw k (fold_more f s ys (i - a) d (omega (arith, length-drop a xs)) ∙ ap (λ (v : _). f v (get_or ys (i - a) d)) e ∙ ap (f t) g))

-- .. that tests each element
pub fold_all : {A : Type 0} (p : A → Bool) (xs : List A) (d : A) (a : ℕ) → a ≤ length xs
    → fold (λ ok x. ok && p x) true (drop a xs) ≡ all a (length xs) (λ i. p (get_or xs i d))
unfolding all
fold_all p xs d a h = fold-range (λ ok x. ok && p x) true xs d a h

-- a count of those that pass is a loop that counts
pub count-range : {A : Type 0} (p : A → Bool) (xs : List A) (d : A) → count_by p xs ≡ range 0 (length xs) (λ i n. cond (p (get_or xs i d)) (n + 1) n) 0
count-range p xs d =
    fold-range (λ n x. n + cond (p x) 1 0) 0 xs d 0 (omega arith)
    ∙ same-loops 0 (length xs) _ _ 0 (omega arith) (λ i u v n. one (p (get_or xs i d)) n)
  where
    one : (b : Bool) (n : ℕ) → n + cond b 1 0 ≡ cond b (n + 1) n
    one true n = refl
    one false n = omega arith
