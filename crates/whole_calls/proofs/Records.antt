-- The theorems on load order, for two whole records.
use mathlib.Core.Path.{◌≡◌, refl, sym, ap, subst, ◌∙◌}
use mathlib.Core.List.{List, []}
use Prim.Native.Nat.{ℕ, ◌*◌, ◌≤◌}
use lib.ListN.{length}
use lib.Ieee.{Float}
use Rattle.arithmetic.specs.Outcome.{◌then◌}
use Rattle.arithmetic.specs.declared.refusal.Refusal.TheVariants.{MatrixLength, BufferLength}
use Rattle.matrix.specs.Checks.{check_size, check_buffer, check_finite, check_symmetric, Distinct}
use Rattle.matrix.specs.Plain.{AllBelow}
use Rattle.matrix.proofs.CheckLaws.{Accepted, then_accepted, size_passes, length-passes}
use Rattle.methods.specs.AcceptedMatrix.{AcceptedMatrix}
use Rattle.methods.specs.Calls.{check_method, method_of}
use Rattle.methods.specs.Factor.{factor, tolerances}
use Rattle.methods.specs.Reloading.{reload}
use Rattle.methods.proofs.AcceptedCalls.{method_passes, finite_passes, symmetric-passes, matrix-doubles, reload-accepted}
use Rattle.load_order.specs.LoadOrder.{Alike}
use Rattle.load_order.specs.Numbered.{reload_numbers, NumberedAlike}
use Rattle.load_order.proofs.Theorem.{load_order}
use Rattle.load_order.proofs.Numbered.{length-reloaded, reloaded_distinct, numbered}
use Rattle.encoding.specs.Bytes.{doubles, double_bytes}
use Rattle.encoding.specs.Checks.{check_entries}
use Rattle.encoding.proofs.ByteLaws.{length-content}
use Rattle.encoding.proofs.Content.{doubles-content}
use Rattle.answer_record.specs.AnswerRecord.{longest_answer}
use Rattle.record.specs.MatrixRecord.{record_checks}
use Rattle.record.specs.Record.{result_of}
use Rattle.whole_calls.specs.BrokenRecords.{checks_of_content, numbered_checks}
use Rattle.whole_calls.specs.NumberBytes.{number_bytes}
use Rattle.whole_calls.specs.Records.{record_of, RecordsTheorem, numbered_record_of, NumberedRecordsTheorem}
use Rattle.whole_calls.proofs.MatrixRecord.{record_fits, numbered_fits}
use Rattle.whole_calls.proofs.NumberBytes.{numbers-content, number-bytes_length, number-bytes_pass, reloaded_below}
use Rattle.whole_calls.proofs.Reading.{whole-records, whole-numbered_records}
use Rattle.whole_calls.proofs.ReadBackTheorem.{read_back}
use Rattle.whole_calls.proofs.Answers.{shown-alike, shown-numbered}

module _ (method n : ℕ) (a : List Float) (p : 1 ≤ method) (q : method ≤ 3) (u : 1 ≤ n) (w : n ≤ 48) (A : AcceptedMatrix n a) where
  abbrev entries : List ℕ
  entries = double_bytes a

  same : doubles entries ≡ a
  same = doubles-content a (matrix-doubles n a u A)

  entries-length : length entries ≡ 8 * (n * n)
  entries-length = length-content a ∙ ap (λ (x : ℕ). 8 * x) A.entries

  sizes_pass : Accepted (check_method method then check_size n then check_entries n (length entries))
  sizes_pass = then_accepted (then_accepted (method_passes method p q) (size_passes n u w)) (length-passes (8 * (n * n)) (length entries) MatrixLength entries-length)

  room_passes : Accepted (check_buffer longest_answer longest_answer)
  room_passes = length-passes longest_answer longest_answer BufferLength refl

  finite_entries : Accepted (check_finite n (doubles entries))
  finite_entries = rw same (finite_passes n a u A)

  symmetric-entries : Accepted (check_symmetric n (doubles entries))
  symmetric-entries = rw same (symmetric-passes n a u A)

  -- ---- without contract numbers
  content-passes : Accepted (checks_of_content n method entries longest_answer)
  content-passes = then_accepted (then_accepted (then_accepted sizes_pass room_passes) finite_entries) symmetric-entries

  record_passes : Accepted (record_checks (record_of method n a) longest_answer)
  record_passes = subst Accepted (sym ((whole-records n method entries (record_fits n method entries w entries-length)).checks_are longest_answer)) content-passes

  record_result : result_of (record_of method n a) ≡ factor (method_of method) tolerances [] n a
  record_result = (whole-records n method entries (record_fits n method entries w entries-length)).result_is ∙ rw (content-passes.is, same)

  -- ---- with contract numbers
  module _ (ks : List ℕ) (e : length ks ≡ n) (below : AllBelow 0x1_0000_0000 ks) (D : Distinct ks) where
    abbrev contracts : List ℕ
    contracts = number_bytes ks

    numbered_content_passes : Accepted (numbered_checks n method contracts entries longest_answer)
    numbered_content_passes = then_accepted (then_accepted (then_accepted (then_accepted sizes_pass (number-bytes_pass n ks e below D)) room_passes) finite_entries) symmetric-entries

    numbered_passes : Accepted (record_checks (numbered_record_of method n ks a) longest_answer)
    numbered_passes = subst Accepted (sym ((whole-numbered_records n method contracts entries (numbered_fits n method contracts entries w (number-bytes_length n ks e) entries-length)).checks_are longest_answer)) numbered_content_passes

    numbered_result : result_of (numbered_record_of method n ks a) ≡ factor (method_of method) tolerances ks n a
    numbered_result = (whole-numbered_records n method contracts entries (numbered_fits n method contracts entries w (number-bytes_length n ks e) entries-length)).result_is ∙ rw (numbered_content_passes.is, same, numbers-content ks below)

pub records : RecordsTheorem
records method n a s p q u w A L =
    let A' = reload-accepted n a s A L in
    let b = record_of method n a in
    let b' = record_of method n (reload n s a) in
    let alike : Alike n s (result_of b) (result_of b') =
    rw (record_result method n a p q u w A, record_result method n (reload n s a) p q u w A') (load_order (method_of method) tolerances n a s A L) in
    record {
      first_passes = (record_passes method n a p q u w A).is;
      second_passes = (record_passes method n (reload n s a) p q u w A').is;
      alike = alike;
      answers_alike = rw (read_back b, read_back b') (shown-alike n s (result_of b) (result_of b') alike);
    }

pub numbered_records : NumberedRecordsTheorem
numbered_records method n a ks s p q u w A e below D L =
    let A' = reload-accepted n a s A L in
    let ks' = reload_numbers n s ks in
    let e' = length-reloaded n s ks in
    let below' = reloaded_below n ks e s below L in
    let D' = reloaded_distinct n s ks e D L in
    let b = numbered_record_of method n ks a in
    let b' = numbered_record_of method n ks' (reload n s a) in
    let alike : NumberedAlike (method_of method) n s (result_of b) (result_of b') =
    rw (numbered_result method n a p q u w A ks e below D, numbered_result method n (reload n s a) p q u w A' ks' e' below' D')
    (numbered (method_of method) tolerances ks n a s e D A L) in
    record {
      first_passes = (numbered_passes method n a p q u w A ks e below D).is;
      second_passes = (numbered_passes method n (reload n s a) p q u w A' ks' e' below' D').is;
      alike = alike;
      answers_alike = rw (read_back b, read_back b') (shown-numbered n s (result_of b) (result_of b') (method_of method) alike);
    }
