-- The theorems on load order, for two whole calls on bytes.
use mathlib.Core.Path.{◌≡◌, refl, ap, ◌∙◌}
use mathlib.Core.List.{List, []}
use Prim.Native.Nat.{ℕ, ◌*◌, ◌≤◌}
use lib.ListN.{length}
use lib.Ieee.{Float}
use Rattle.arithmetic.specs.Outcome.{Outcome}
use Rattle.std.specs.Prelude.{Ok}
use Rattle.arithmetic.specs.declared.refusal.Refusal.TheVariants.{MatrixLength, BufferLength}
use Rattle.matrix.specs.Checks.{check_buffer, check_finite, check_symmetric}
use Rattle.matrix.proofs.CheckLaws.{Accepted, then_accepted, size_passes, length-passes}
use Rattle.methods.specs.AcceptedMatrix.{AcceptedMatrix}
use Rattle.methods.specs.Calls.{method_of}
use Rattle.methods.specs.Factor.{factor, tolerances}
use Rattle.methods.specs.Reloading.{reload}
use Rattle.methods.proofs.AcceptedCalls.{method_passes, finite_passes, symmetric-passes, matrix-doubles, reload-accepted}
use Rattle.load_order.specs.Numbered.{reload_numbers}
use Rattle.load_order.proofs.Theorem.{load_order}
use Rattle.load_order.proofs.Numbered.{length-reloaded, reloaded_distinct, numbered}
use Rattle.results.proofs.Theorem.{results}
use Rattle.encoding.specs.Bytes.{numbers, doubles, double_bytes}
use Rattle.encoding.specs.Checks.{check_entries}
use Rattle.encoding.proofs.ByteLaws.{length-content}
use Rattle.encoding.proofs.Content.{doubles-content}
use Rattle.byte_factor.specs.Factor.{BytesCall, answered_bytes, entry_byte_checks, bytes_call_with}
use Rattle.whole_calls.specs.ByteCalls.{LentBytes, FittingBytes, checked_bytes, PassesBytes, read_bytes, ByteCallsTheorem, NumberedByteCallsTheorem}
use Rattle.whole_calls.specs.NumberBytes.{number_bytes}
use Rattle.whole_calls.proofs.NumberBytes.{numbers-content, number-bytes_pass, reloaded_below}

buffer_passes : (wanted len : ℕ) → len ≡ wanted → Accepted (check_buffer wanted len)
buffer_passes wanted len e = length-passes wanted len BufferLength e

module _ (numbering : Outcome) (ns : List ℕ) (N : Accepted numbering) (method n : ℕ) (a : List Float) (b : LentBytes) (p : 1 ≤ method) (q : method ≤ 3) (u : 1 ≤ n) (w : n ≤ 48) (A : AcceptedMatrix n a) (F : FittingBytes n b) where
  same : doubles (double_bytes a) ≡ a
  same = doubles-content a (matrix-doubles n a u A)

  bytes-pass : Accepted (checked_bytes numbering method n a b)
  unfolding entry_byte_checks
  bytes-pass =
      let entries : Accepted (check_entries n (length (double_bytes a))) = length-passes (8 * (n * n)) (length (double_bytes a)) MatrixLength (length-content a ∙ ap (λ (x : ℕ). 8 * x) A.entries) in
      let numbered = then_accepted (then_accepted (then_accepted (method_passes method p q) (size_passes n u w)) entries) N in
      let operands = then_accepted (then_accepted (then_accepted (then_accepted numbered (buffer_passes _ _ F.l_is)) (buffer_passes _ _ F.work_is)) (buffer_passes _ _ F.e_is)) (buffer_passes _ _ F.p_is) in
      let finite : Accepted (check_finite n (doubles (double_bytes a))) = rw same (finite_passes n a u A) in
      let symmetric : Accepted (check_symmetric n (doubles (double_bytes a))) = rw same (symmetric-passes n a u A) in
      then_accepted (then_accepted operands finite) symmetric

  abbrev pub called : BytesCall
  called = bytes_call_with numbering ns method n (double_bytes a) b.l b.work b.e b.p

  pub called_is : called ≡ answered_bytes n (factor (method_of method) tolerances ns n a)
  unfolding bytes_call_with
  called_is = rw bytes-pass.is (ap (λ (x : List Float). answered_bytes n (factor (method_of method) tolerances ns n x)) same)

  call_passes : PassesBytes numbering method n a b called
  call_passes = record { checks = bytes-pass.is; cleared = ap (λ (c : BytesCall). c.work) called_is }

  pub read : read_bytes called ≡ factor (method_of method) tolerances ns n a
  read =
      let d = (results (method_of method) ns n a u A).doubles in
      ap read_bytes called_is ∙ rw (doubles-content _ d.0, doubles-content _ d.1)

-- ---- without contract numbers
pub none : Accepted (Ok tt)
none = record { is = refl }

pub byte_calls : ByteCallsTheorem
byte_calls method n a s b b' p q u w A L F F' =
    let A' = reload-accepted n a s A L in
    record {
      first = call_passes (Ok tt) [] none method n a b p q u w A F;
      second = call_passes (Ok tt) [] none method n (reload n s a) b' p q u w A' F';
      alike = rw (read (Ok tt) [] none method n a b p q u w A F, read (Ok tt) [] none method n (reload n s a) b' p q u w A' F') (load_order (method_of method) tolerances n a s A L);
    }

-- ---- with contract numbers
pub numbered_byte_calls : NumberedByteCallsTheorem
numbered_byte_calls method n a ks s b b' p q u w A e below D L F F' =
    let A' = reload-accepted n a s A L in
    let ks' = reload_numbers n s ks in
    let below' = reloaded_below n ks e s below L in
    let N = number-bytes_pass n ks e below D in
    let N' = number-bytes_pass n ks' (length-reloaded n s ks) below' (reloaded_distinct n s ks e D L) in
    let same_numbers : numbers (number_bytes ks) ≡ ks = numbers-content ks below in
    let same-reloaded : numbers (number_bytes ks') ≡ ks' = numbers-content ks' below' in
    record {
      first = call_passes _ (numbers (number_bytes ks)) N method n a b p q u w A F;
      second = call_passes _ (numbers (number_bytes ks')) N' method n (reload n s a) b' p q u w A' F';
      alike = rw (read _ (numbers (number_bytes ks)) N method n a b p q u w A F, read _ (numbers (number_bytes ks')) N' method n (reload n s a) b' p q u w A' F', same_numbers, same-reloaded)
          (numbered (method_of method) tolerances ks n a s e D A L);
    }
