-- The theorems on load order, for two whole calls.
use mathlib.Core.Path.{◌≡◌, refl, sym, ap}
use mathlib.Core.Bool.{true}
use mathlib.Core.List.{List, []}
use Prim.Native.Nat.{ℕ, ◌≤◌}
use lib.ListN.{length}
use lib.Ieee.{Float}
use Rattle.arithmetic.specs.Outcome.{complete, Outcome}
use Rattle.std.specs.Prelude.{Ok}
use Rattle.matrix.proofs.CheckLaws.{Accepted}
use Rattle.methods.specs.AcceptedMatrix.{AcceptedMatrix}
use Rattle.methods.specs.Calls.{Call, method_of, factor_checks, answered, call_with}
use Rattle.methods.specs.Factor.{factor, tolerances}
use Rattle.methods.specs.Reloading.{reload}
use Rattle.methods.proofs.AcceptedCalls.{passes, numbers-pass, reload-accepted}
use Rattle.methods.proofs.Answers.{answers}
use Rattle.load_order.specs.Numbered.{reload_numbers}
use Rattle.load_order.specs.Calls.{LentBuffers, Fitting, Passes, CallsTheorem, NumberedCallsTheorem}
use Rattle.load_order.proofs.Theorem.{load_order}
use Rattle.load_order.proofs.Numbered.{length-reloaded, reloaded_distinct, numbered}

-- a call whose number checks pass: with numbers, or without where they come to Ok
module _ (numbering : Outcome) (numbers : List ℕ) (N : Accepted numbering) (method n : ℕ) (a : List Float) (b : LentBuffers) (p : 1 ≤ method) (q : method ≤ 3) (u : 1 ≤ n) (w : n ≤ 48) (A : AcceptedMatrix n a) (F : Fitting n b) where
  checks-pass : complete (factor_checks method n a numbering (length b.l) (length b.work) (length b.e) (length b.p)) ≡ true
  checks-pass = (passes method n a numbering (length b.l) (length b.work) (length b.e) (length b.p) N (record {
    method_from = p;
    method_to = q;
    rows_from = u;
    rows_to = w;
    matrix = A;
    l_is = F.l_is;
    work_is = F.work_is;
    e_is = F.e_is;
    p_is = F.p_is;
  })).is

  pub call-is : answered n (factor (method_of method) tolerances numbers n a) ≡ call_with numbering numbers method n a b.l b.work b.e b.p
  call-is = answers numbering numbers method n a b.l b.work b.e b.p (answered n (factor (method_of method) tolerances numbers n a)) checks-pass refl

  call_passes : Passes numbering method n a b (call_with numbering numbers method n a b.l b.work b.e b.p)
  call_passes = record { checks = checks-pass; cleared = ap (λ (c : Call). c.work) (sym call-is) }

-- ---- without contract numbers
none : Accepted (Ok tt)
none = record { is = refl }

pub calls : CallsTheorem
calls method n a s b b' p q u w A L F F' =
    let A' = reload-accepted n a s A L in
    record {
      first = call_passes (Ok tt) [] none method n a b p q u w A F;
      second = call_passes (Ok tt) [] none method n (reload n s a) b' p q u w A' F';
      alike = rw (← call-is (Ok tt) [] none method n a b p q u w A F, ← call-is (Ok tt) [] none method n (reload n s a) b' p q u w A' F')
          (load_order (method_of method) tolerances n a s A L);
    }

-- ---- with contract numbers
pub numbered_calls : NumberedCallsTheorem
numbered_calls method n a numbers s b b' p q u w A e D L F F' =
    let A' = reload-accepted n a s A L in
    let numbers' = reload_numbers n s numbers in
    let N = numbers-pass n numbers (record { len = e; distinct = D }) in
    let N' = numbers-pass n numbers' (record { len = length-reloaded n s numbers; distinct = reloaded_distinct n s numbers e D L }) in
    record {
      first = call_passes _ numbers N method n a b p q u w A F;
      second = call_passes _ numbers' N' method n (reload n s a) b' p q u w A' F';
      alike = rw (← call-is _ numbers N method n a b p q u w A F, ← call-is _ numbers' N' method n (reload n s a) b' p q u w A' F')
          (numbered (method_of method) tolerances numbers n a s e D A L);
    }
