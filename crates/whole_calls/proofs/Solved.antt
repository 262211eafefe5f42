-- The theorems on two factorization calls with the solve calls that follow.
use mathlib.Core.Path.{◌≡◌, refl, ap, ap₂, ◌∙◌, subst}
use mathlib.Core.Bool.{Bool, true, false, cond}
use mathlib.Core.List.{List, []}
use Prim.Native.Nat.{ℕ, ◌*◌, ◌≤◌, ◌<◌}
use native.Mathlib.Omega.{arith}
use borrow.Author.Tests.{eq-eqb, eqb-true}
use lib.Dec.{eqb}
use lib.ListN.{length, get_or}
use lib.Ieee.{Float, nan}
use Rattle.arithmetic.specs.DoubleList.{AllDoubles}
use Rattle.arithmetic.specs.Outcome.{complete, Outcome}
use Rattle.std.specs.Prelude.{Ok}
use Rattle.arithmetic.proofs.Cases.{same_tests}
use Rattle.matrix.proofs.TableLaws.{length-table, get_or-table}
use Rattle.methods.specs.AcceptedMatrix.{AcceptedMatrix}
use Rattle.methods.specs.Calls.{method_of, answered}
use Rattle.methods.specs.Factor.{factor, tolerances}
use Rattle.methods.specs.Reloading.{LoadOrder, reload}
use Rattle.methods.specs.Result.{Result}
use Rattle.methods.specs.declared.method.Method.{Method}
use Rattle.methods.proofs.AcceptedCalls.{numbers-pass, reload-accepted}
use Rattle.solve.specs.Substitution.{SolveCall, solve_call_of, solve, length_checks, solve_checks, solve_call}
use Rattle.solve.proofs.FiniteRows.{solve-doubles}
use Rattle.load_order.specs.LoadOrder.{AlikeThroughout}
use Rattle.load_order.specs.Numbered.{reload_numbers, OnePhase}
use Rattle.load_order.specs.Solve.{reload_right}
use Rattle.load_order.proofs.Calls.{call-is}
use Rattle.load_order.proofs.Numbered.{length-reloaded, reloaded_distinct, numbered}
use Rattle.load_order.proofs.Solve.{alike-solved}
use Rattle.load_order.proofs.Theorem.{load_order}
use Rattle.results.proofs.Theorem.{results}
use Rattle.encoding.specs.Bytes.{doubles, double_bytes}
use Rattle.encoding.proofs.ByteLaws.{length-content}
use Rattle.encoding.proofs.Content.{doubles-content}
use Rattle.encoding.proofs.Doubles.{doubles-length}
use Rattle.byte_factor.specs.Factor.{answered_bytes}
use Rattle.byte_solve.specs.Solve.{SolveBytesCall, solve_bytes_call_of, solved_bytes, length_byte_checks, solve_byte_checks, solve_bytes_call}
use Rattle.whole_calls.specs.ByteCalls.{called_numbered_bytes}
use Rattle.whole_calls.specs.Solved.{Untied, CallsSolvedAlike, SolvedCallsTheorem, NumberedSolvedCallsTheorem, read_solved, ByteCallsSolvedAlike, SolvedByteCallsTheorem, NumberedSolvedByteCallsTheorem}
use Rattle.whole_calls.proofs.ByteCalls.{called_is, read, none}
use Rattle.whole_calls.proofs.NumberBytes.{numbers-content, number-bytes_pass, reloaded_below}

-- ---- the right side loaded by s
right-doubles : (n : ℕ) (s : List ℕ) (b : List Float) → LoadOrder n s → length b ≡ n → AllDoubles b → AllDoubles (reload_right n s b)
right-doubles n s b S e D k h =
    let q : k < n = omega (arith, length-table n (λ i. get_or b (get_or s i 0) nan)) in
    rw (get_or-table n (λ i. get_or b (get_or s i 0) nan) k nan q) (D (get_or s k 0) (omega (arith, S.below k q)))

-- ---- a solve call on the bytes of L and b is the one on the doubles
eight_times : (k m : ℕ) → eqb (8 * k) (8 * m) ≡ eqb k m
eight_times k m = same_tests (eqb (8 * k) (8 * m)) (eqb k m) (λ t. eq-eqb k m (omega (arith, eqb-true (8 * k) (8 * m) t))) (λ t. eq-eqb (8 * k) (8 * m) (omega (arith, eqb-true k m t)))

lengths_read : (n l y p b : ℕ) → length_byte_checks n (8 * l) (8 * y) p (8 * b) ≡ length_checks n l y p b
lengths_read n l y p b = rw (eight_times l (n * n), eight_times y n, eight_times b n)

length-read : (n : ℕ) (y : List ℕ) → length y ≡ 8 * n → length (doubles y) ≡ n
length-read n y e = doubles-length y ∙ omega arith

abbrev call_of : Outcome → SolveCall → List ℕ → SolveBytesCall
call_of checks r y = cond (complete checks) (solved_bytes r) (solve_bytes_call_of checks y)

call-read : (checks : Outcome) (r : SolveCall) (y : List ℕ) → AllDoubles r.y → read_solved (call_of checks r y) ≡ cond (complete checks) r (solve_call_of checks (doubles y))
call-read checks r y D = go (complete checks)
  where
    go : (c : Bool) → read_solved (cond c (solved_bytes r) (solve_bytes_call_of checks y)) ≡ cond c r (solve_call_of checks (doubles y))
    go true = ap (solve_call_of r.outcome) (doubles-content r.y D)
    go false = refl

module _ (n : ℕ) (l : List Float) (p : List ℕ) (b : List Float) (y : List ℕ) (L : AllDoubles l) (B : AllDoubles b) (e : length y ≡ 8 * n) where
  checks-read : solve_byte_checks n (double_bytes l) (length y) p (double_bytes b) ≡ solve_checks n l (length (doubles y)) p b
  checks-read = rw (doubles-content l L, doubles-content b B, length-content l, length-content b, length-read n y e, e, lengths_read n (length l) n (length p) (length b))

  solve-read : read_solved (solve_bytes_call n (double_bytes l) p (double_bytes b) y) ≡ solve_call n l p b (doubles y)
  solve-read = ap₂ (λ (x : List Float) (z : List Float). read_solved (call_of (solve_byte_checks n (double_bytes l) (length y) p (double_bytes b)) (solve n x p z) y)) (doubles-content l L) (doubles-content b B)
      ∙ ap (λ (o : Outcome). read_solved (call_of o (solve n l p b) y)) checks-read
      ∙ call-read (solve_checks n l (length (doubles y)) p b) (solve n l p b) y (solve-doubles n l p b)

-- ---- two runs alike throughout, the first complete
abbrev ran : Method → List ℕ → ℕ → List Float → Result
ran m ns n a = factor m tolerances ns n a

module _ (m : Method) (ns ns' : List ℕ) (n : ℕ) (a : List Float) (s : List ℕ) (b : List Float) (u : 1 ≤ n) (A : AcceptedMatrix n a) (S : LoadOrder n s) (B : length b ≡ n)
    (T : AlikeThroughout n s (ran m ns n a) (ran m ns' n (reload n s a))) (C : (ran m ns n a).decomposition.outcome ≡ Ok tt) where
  A' : AcceptedMatrix n (reload n s a)
  A' = reload-accepted n a s A S

  runs_solved : (y y' : List Float) → length y ≡ n → length y' ≡ n → CallsSolvedAlike n s (answered n (ran m ns n a)) (answered n (ran m ns' n (reload n s a))) b y y'
  runs_solved y y' Y Y' = alike-solved n s (ran m ns n a) (ran m ns' n (reload n s a)) b y y' S (results m ns n a u A).permutation (results m ns' n (reload n s a) u A').permutation B Y Y' T C

  runs_solved_bytes : AllDoubles b → (y y' : List ℕ) → length y ≡ 8 * n → length y' ≡ 8 * n → ByteCallsSolvedAlike n s (answered_bytes n (ran m ns n a)) (answered_bytes n (ran m ns' n (reload n s a))) b y y'
  runs_solved_bytes D y y' Y Y' =
      let r = ran m ns n a in
      let r' = ran m ns' n (reload n s a) in
      let l = (results m ns n a u A).doubles.0 in
      let l' = (results m ns' n (reload n s a) u A').doubles.0 in
      rw (solve-read n r.l r.p b y l D Y, solve-read n r'.l r'.p (reload_right n s b) y' l' (right-doubles n s b S B D) Y', checks-read n r.l r.p b y l D Y)
      (runs_solved (doubles y) (doubles y') (length-read n y Y) (length-read n y' Y'))

-- ---- without contract numbers
pub solved_calls : SolvedCallsTheorem
solved_calls method n a s lent lent' b y y' p q u w A S F F' B Y Y' U =
    let A' = reload-accepted n a s A S in
    let is = call-is (Ok tt) [] none method n a lent p q u w A F in
    let is' = call-is (Ok tt) [] none method n (reload n s a) lent' p q u w A' F' in
    let K : Untied (ran (method_of method) [] n a).decomposition = rw (← is) at U in
    rw (← is, ← is') (runs_solved (method_of method) [] [] n a s b u A S B ((load_order (method_of method) tolerances n a s A S).throughout K.tied K.phase2) K.outcome y y' Y Y')

pub solved_byte_calls : SolvedByteCallsTheorem
solved_byte_calls method n a s lent lent' b y y' p q u w A S F F' B D Y Y' U =
    let A' = reload-accepted n a s A S in
    let is = called_is (Ok tt) [] none method n a lent p q u w A F in
    let is' = called_is (Ok tt) [] none method n (reload n s a) lent' p q u w A' F' in
    let K : Untied (ran (method_of method) [] n a).decomposition = rw is at U in
    rw (is, is') (runs_solved_bytes (method_of method) [] [] n a s b u A S B ((load_order (method_of method) tolerances n a s A S).throughout K.tied K.phase2) K.outcome D y y' Y Y')

-- ---- with contract numbers
pub numbered_solved_calls : NumberedSolvedCallsTheorem
numbered_solved_calls method n a ks s lent lent' b y y' p q u w A e K S F F' B Y Y' C O =
    let A' = reload-accepted n a s A S in
    let ks' = reload_numbers n s ks in
    let N = numbers-pass n ks (record { len = e; distinct = K }) in
    let N' = numbers-pass n ks' (record { len = length-reloaded n s ks; distinct = reloaded_distinct n s ks e K S }) in
    let is = call-is _ ks N method n a lent p q u w A F in
    let is' = call-is _ ks' N' method n (reload n s a) lent' p q u w A' F' in
    let O₁ : OnePhase (method_of method) (ran (method_of method) ks n a) = rw (← is) at O in
    let C₁ : (ran (method_of method) ks n a).decomposition.outcome ≡ Ok tt = rw (← is) at C in
    rw (← is, ← is') (runs_solved (method_of method) ks ks' n a s b u A S B ((numbered (method_of method) tolerances ks n a s e K A S).throughout O₁) C₁ y y' Y Y')

pub numbered_solved_byte_calls : NumberedSolvedByteCallsTheorem
numbered_solved_byte_calls method n a ks s lent lent' b y y' p q u w A e below K S F F' B D Y Y' C O =
    let A' = reload-accepted n a s A S in
    let ks' = reload_numbers n s ks in
    let below' = reloaded_below n ks e s below S in
    let N = number-bytes_pass n ks e below K in
    let N' = number-bytes_pass n ks' (length-reloaded n s ks) below' (reloaded_distinct n s ks e K S) in
    let m = method_of method in
    let is : called_numbered_bytes method n ks a lent ≡ answered_bytes n (ran m ks n a) = called_is _ _ N method n a lent p q u w A F ∙ ap (λ (x : List ℕ). answered_bytes n (ran m x n a)) (numbers-content ks below) in
    let is' : called_numbered_bytes method n ks' (reload n s a) lent' ≡ answered_bytes n (ran m ks' n (reload n s a)) =
    called_is _ _ N' method n (reload n s a) lent' p q u w A' F' ∙ ap (λ (x : List ℕ). answered_bytes n (ran m x n (reload n s a))) (numbers-content ks' below') in
    let C₁ : (ran m ks n a).decomposition.outcome ≡ Ok tt = rw is at C in
    let O₁ : OnePhase m (ran m ks n a) = subst (OnePhase m) (read _ _ N method n a lent p q u w A F ∙ ap (λ (x : List ℕ). ran m x n a) (numbers-content ks below)) O in
    rw (is, is') (runs_solved_bytes m ks ks' n a s b u A S B ((numbered m tolerances ks n a s e K A S).throughout O₁) C₁ D y y' Y Y')
