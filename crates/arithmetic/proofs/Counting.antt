-- Counting loops in code, from a to n: what holds at i, that it holds before the first turn and over a turn, and what follows after the last.
use mathlib.Core.Path.{◌≡◌}
use mathlib.Core.Bool.{Bool, true}
use Prim.Native.Nat.{ℕ, ◌+◌, ◌≤◌, ◌<◌}
use native.Mathlib.Omega.{arith}
use borrow.Author.Rules.{rules}
use Rattle.arithmetic.specs.All.{all}
use Rattle.arithmetic.proofs.AllLaws.{and_test, all_end}
use Rattle.arithmetic.specs.Loop.{range}
use Rattle.arithmetic.proofs.LoopLaws.{loop_start, loop_turn, loop_end, loop_rest}

-- s is what the turns before i made of s₀
pub record Counting {S : Type 0} (a n i : ℕ) (body : ℕ → S → S) (s₀ s : S) : Type 0 where
  pub low : a ≤ i
  pub high : i ≤ n
  pub is : s ≡ range a i body s₀

pub counting_start : {S : Type 0} {a n : ℕ} {body : ℕ → S → S} {s : S} → a ≤ n → Counting a n a body s s
counting_start {S} {a} {n} {body} {s} h = record { low = omega arith; high = h; is = loop_start a body s }

pub counting_turn : {S : Type 0} {a n i : ℕ} {body : ℕ → S → S} {s₀ s s' : S} → Counting a n i body s₀ s → i < n → s' ≡ body i s → Counting a n (i + 1) body s₀ s'
counting_turn {S} {a} {n} {i} {body} {s₀} {s} {s'} c h e = record { low = omega arith; high = omega arith; is = loop_turn a i body s₀ s s' c.low c.is e }

pub counting_end : {S : Type 0} {a n i : ℕ} {body : ℕ → S → S} {s₀ s : S} → Counting a n i body s₀ s → n ≤ i → s ≡ range a n body s₀
counting_end {S} {a} {n} {i} {body} {s₀} {s} c h = loop_end a i n body s₀ s c.high h c.is

-- .. of a loop left in turn i, where the turns after it would change nothing
pub counting_left : {S : Type 0} {a n i : ℕ} {body : ℕ → S → S} {s₀ s s' : S} → Counting a n i body s₀ s → i < n → s' ≡ body i s
    → ((k : ℕ) → body k s' ≡ s') → s' ≡ range a n body s₀
counting_left {S} {a} {n} {i} {body} {s₀} {s} {s'} c h e stays =
    let t = counting_turn c h e in loop_rest a (i + 1) n body s₀ s' t.low t.high t.is (λ k p q. stays k)

-- .. of a loop that tests
pub counting_all : {a n i : ℕ} {test : ℕ → Bool} {ok : Bool} → Counting a n i (and_test test) true ok → n ≤ i → ok ≡ all a n test
counting_all {a} {n} {i} {test} {ok} c h = all_end a i n test ok c.high h c.is

-- for `search`, at what a loop holds when it begins and when it has ended
pub ruleset loops = (rules, counting_start, counting_end, counting_all)
