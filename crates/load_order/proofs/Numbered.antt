-- The theorem on load order with contract numbers.
use mathlib.Core.Path.{◌≡◌, sym, ◌∙◌}
use mathlib.Core.Bool.{true, false}
use mathlib.Core.List.{List}
use Prim.Native.Nat.{ℕ, ◌<◌}
use native.Mathlib.Omega.{arith}
use lib.ListN.{length, get_or}
use Rattle.matrix.specs.Checks.{Distinct}
use Rattle.matrix.proofs.TableLaws.{length-table, get_or-table}
use Rattle.methods.specs.Reloading.{LoadOrder, reload}
use Rattle.methods.specs.Gmw81.{mod_cholesky_gmw81}
use Rattle.methods.specs.Gmw81 as gmw
use Rattle.methods.specs.Se.{mod_cholesky_se}
use Rattle.methods.specs.Se as ses
use Rattle.methods.specs.Factor.{factor}
use Rattle.methods.specs.declared.method.Method.TheVariants.{Gmw81, Se}
use Rattle.methods.proofs.LoadOrders.{order, position}
use Rattle.methods.proofs.Loaded.{loaded}
use Rattle.load_order.specs.Numbered.{reload_numbers, NumberedTheorem}
use Rattle.load_order.proofs.Picks.{Renumbered, with_numbers}
use Rattle.load_order.proofs.Ends.{ended_joined}
use Rattle.load_order.proofs.Se as se-end
use Rattle.load_order.proofs.Gmw81 as gmw-end

pub length-reloaded : (n : ℕ) (s numbers : List ℕ) → length (reload_numbers n s numbers) ≡ n
length-reloaded n s numbers = length-table n _

reloaded_at : (n : ℕ) (s numbers : List ℕ) (i : ℕ) → i < n → get_or (reload_numbers n s numbers) i 0 ≡ get_or numbers (get_or s i 0) 0
reloaded_at n s numbers i h = get_or-table n _ i 0 h

pub reloaded_distinct : (n : ℕ) (s numbers : List ℕ) → length numbers ≡ n → Distinct numbers → LoadOrder n s → Distinct (reload_numbers n s numbers)
reloaded_distinct n s numbers e D L = record {
  once = λ i k h l q.
      let hi : i < n = omega (arith, length-reloaded n s numbers) in
      let hk : k < n = omega (arith, length-reloaded n s numbers) in
      L.once i k hi hk (D.once (get_or s i 0) (get_or s k 0) (omega (arith, L.below i hi)) (omega (arith, L.below k hk)) (sym (reloaded_at n s numbers i hi) ∙ q ∙ reloaded_at n s numbers k hk));
}

renumbered : (n : ℕ) (s numbers : List ℕ) → length numbers ≡ n → Distinct numbers → Renumbered n (order s) numbers (reload_numbers n s numbers)
renumbered n s numbers e D = record {
  length_a = e;
  length_b = length-reloaded n s numbers;
  along = reloaded_at n s numbers;
  once = λ x y px py. D.once x y (omega arith) (omega arith);
}

pub numbered : NumberedTheorem
unfolding factor mod_cholesky_gmw81 mod_cholesky_se
numbered Gmw81 t numbers n a s e D A L =
    let second = reload_numbers n s numbers in
    let S = with_numbers true n (order s) numbers second (renumbered n s numbers e D) in
    let J = ended_joined n s (gmw-end.end_of (gmw.run numbers n a)) (gmw-end.end_of (gmw.run second n (reload n s a))) L
    (gmw-end.gmw81-ended n s (position n s) a (reload n s a) (loaded n a s A L) ⊥ numbers second S) in
    record { tied = J.tied; phase2 = J.phase2; throughout = λ o. J.throughout (gmw-end.one-phase numbers n a) }
numbered (Se v) t numbers n a s e D A L =
    let second = reload_numbers n s numbers in
    let S = with_numbers false n (order s) numbers second (renumbered n s numbers e D) in
    let J = ended_joined n s (se-end.end_of n (ses.run v t numbers n a)) (se-end.end_of n (ses.run v t second n (reload n s a))) L
    (se-end.se_ended v t n s (position n s) a (reload n s a) (loaded n a s A L) ⊥ numbers second S) in
    record { tied = J.tied; phase2 = J.phase2; throughout = J.throughout }
