-- The answer to any list of bytes fits an answer record.
use mathlib.Core.Path.{◌≡◌, refl}
use mathlib.Core.List.{List}
use Prim.Native.Nat.{ℕ, ◌≤◌, ◌<◌}
use native.Mathlib.Omega.{arith}
use lib.ListN.{length}
use lib.Ieee.{Float}
use Rattle.arithmetic.specs.Outcome.{place, complete}
use Rattle.arithmetic.specs.Outcome.{Outcome}
use Rattle.arithmetic.specs.declared.refusal.Refusal.TheVariants.{StoredNotFinite}
use Rattle.matrix.proofs.CellLaws.{square-small}
use Rattle.matrix.specs.Checks.{check_symmetric}
use Rattle.arithmetic.proofs.Cases.{is, holds, fails}
use Rattle.matrix.proofs.CheckLaws.{Accepted}
use Rattle.methods.specs.Result.{Result, outcome_of}
use Rattle.methods.specs.Gmw81 as gmw
use Rattle.methods.specs.Gmw81.{mod_cholesky_gmw81}
use Rattle.methods.specs.Se as schnabel
use Rattle.methods.specs.Se.{mod_cholesky_se}
use Rattle.methods.specs.Factor.{factor, tolerances}
use Rattle.methods.specs.Calls.{method_of}
use Rattle.methods.specs.declared.method.Method.{Method}
use Rattle.methods.specs.declared.method.Method.TheVariants.{Gmw81, Se}
use Rattle.methods.specs.declared.schnabel_eskow.Tolerances.{Tolerances}
use Rattle.methods.specs.Marks.{Mark}
use Rattle.std.specs.Prelude.{Err, None, Some}
use Rattle.results.specs.Results.{Sound, MarksBelow}
use Rattle.results.proofs.Theorem.{results}
use Rattle.encoding.specs.Bytes.{numbers, doubles}
use Rattle.encoding.proofs.Checked.{each_entry}
use Rattle.record.specs.MatrixRecord.{request, contracts_of, entries_of, request_checks, byte_checks}
use Rattle.answer_record.specs.AnswerRecord.{longest_answer}
use Rattle.record.specs.Record.{refused, result_of, result_to, answer}
use Rattle.answer_record.specs.Writing.{PlaceFits, Fits}
use Rattle.record.specs.declared.read.Request.{Request}
use Rattle.record.proofs.Accepted.{request-accepted, matrix-accepted}
use Rattle.record.proofs.Answers.{answer-request, bytes-refused}
use Rattle.answer_record.proofs.AnswerLength.{answer-fits}
use Rattle.record.proofs.Early.{symmetric-early, bytes-early, bytes-parts}

sound_fits : (n : ℕ) (r : Result) → 0 < n → n ≤ 48 → Sound n r → PlaceFits (place r.decomposition.outcome) → Fits r
sound_fits n r np h s t = record {
  marks = (λ j e. omega (arith, s.marks.tied_below j e), λ j e. omega (arith, s.marks.phase2_below j e));
  placed = t;
  count = omega (arith, s.count.most);
  order = λ k q. omega (arith, s.permutation.len, s.permutation.below k (omega (arith, s.permutation.len)));
  amounts = λ k q. s.amounts.finite_amounts k (omega (arith, s.amounts.len));
  factor = each_entry n r.l np s.lower.len s.lower.finite_entries;
  order_length = omega (arith, s.permutation.len);
  amounts_length = omega (arith, s.amounts.len);
  factor_length = omega (arith, s.lower.len, square-small n h);
}

-- a run's outcome names at most a step
mark-placed : (n : ℕ) (m : Mark) → n ≤ 48 → ((j : ℕ) → outcome_of m ≡ Err (StoredNotFinite j) → j ≤ n) → PlaceFits (place (outcome_of m))
mark-placed n None h s = (omega arith, omega arith)
mark-placed n (Some j) h s = (omega (arith, s j refl), omega arith)

run-placed : (method : Method) (t : Tolerances) (ns : List ℕ) (n : ℕ) (a : List Float) → n ≤ 48 → MarksBelow n (factor method t ns n a).decomposition
    → PlaceFits (place (factor method t ns n a).decomposition.outcome)
unfolding factor mod_cholesky_gmw81 mod_cholesky_se
run-placed Gmw81 t ns n a h s = mark-placed n (gmw.run ns n a).progress.refused h s.refused_below
run-placed (Se v) t ns n a h s = mark-placed n (schnabel.run v t ns n a).progress.refused h s.refused_below

refused-fits : (o : Outcome) → PlaceFits (place o) → Fits (refused o)
refused-fits o t = record {
  marks = (λ j e. absurd (never j e), λ j e. absurd (never j e));
  placed = t;
  count = omega arith;
  order = λ k q. absurd (omega arith);
  amounts = λ k q. absurd (omega arith);
  factor = λ k q. absurd (omega arith);
  order_length = omega arith;
  amounts_length = omega arith;
  factor_length = omega arith;
}
  where
    never : (j : ℕ) → ◌≡◌ {A = Mark} None (Some j) → ⊥
    never j e = let z : ◌≡◌ {A = ℕ} 0 1 = cc in omega arith

module _ (r : Request) (room : ℕ) (contracts entries : List ℕ) (h : Accepted (request_checks r room contracts entries)) where
  run_fits : Accepted (check_symmetric r.size (doubles entries)) → Fits (factor (method_of r.method) tolerances (numbers contracts) r.size (doubles entries))
  run_fits k =
      let n = r.size in
      let a = doubles entries in
      let ns = numbers contracts in
      let method = method_of r.method in
      let L = (request-accepted r room contracts entries h).0 in
      let s = results method ns n a L.some (matrix-accepted r room contracts entries h k) in
      sound_fits n (factor method tolerances ns n a) L.some L.square.small s (run-placed method tolerances ns n a L.square.small s.marks)

  pub request-fits : Fits (result_to r contracts entries)
  unfolding result_to
  request-fits = elim (is (complete (check_symmetric r.size (doubles entries)))) [
    | holds c ↦ rw c (run_fits (record { is = c }))
    | fails c ↦ rw c (refused-fits (check_symmetric r.size (doubles entries)) (symmetric-early r room contracts entries (request-accepted r room contracts entries h).0).placed)
  ]

module _ (b : List ℕ) where
  pub bytes_fit : Fits (refused (byte_checks b longest_answer))
  bytes_fit = refused-fits (byte_checks b longest_answer) (bytes-early b longest_answer).placed

  result_fits : Fits (result_of b)
  result_fits = elim (is (complete (byte_checks b longest_answer))) [
    | holds c ↦ rw (answer-request b c) (request-fits (request b) longest_answer (contracts_of b) (entries_of b) (bytes-parts b longest_answer (record { is = c })))
    | fails c ↦ rw (bytes-refused b c) bytes_fit
  ]

  pub answer-length_at_most : length (answer b) ≤ longest_answer
  unfolding answer
  answer-length_at_most = answer-fits (result_of b) result_fits
