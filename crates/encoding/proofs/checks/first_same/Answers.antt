use borrow.Author.Rules.{rules}
use borrow.Author.Tests.{tests}
use mathlib.Core.Path.{◌≡◌, refl, sym, ◌∙◌}
use mathlib.Core.Bool.{Bool}
use Prim.Native.Nat.{ℕ, ◌*◌}
use native.Mathlib.Nat.{sub-zero}
use native.Mathlib.Omega.{arith}
use lib.Dec.{eqb}
use lib.ListN.{get_or, take, drop}
use Rattle.std.proofs.lemmas.Iterator.{YieldsList-from_range}
use Rattle.std.proofs.lemmas.Iterator.Search.{position_from_yields_List}
use Rattle.std.specs.List.{range_with_len, position}
use Rattle.encoding.specs.Bytes.{low_first, numbers}
use Rattle.encoding.proofs.ContractNumbers.{numbers-same}
use Rattle.matrix.proofs.Searches.{range-search}
use Rattle.encoding.proofs.checks.first_same.Goals as goal

pub returns : goal.returns
returns c =
    let b = c.args.b.now in
    let k = c.args.k in
    let number = c.read_contract_number-number.result in
    let test : ℕ → Bool = λ i. eqb (low_first (take 4 (drop (4 * i) b))) number in
    let found : c.position.result ≡ position test (range_with_len 0 k) = position_from_yields_List test _ _ _ c.position.ensures.ran (YieldsList-from_range 0 k k refl (sub-zero k)) (λ x t q h. search (rules, tests)) in
    c.unwrap_or.ensures ∙ range-search test (λ i. eqb (get_or (numbers b) i 0) (get_or (numbers b) k 0)) k found (λ i h. sym (numbers-same b i k (omega arith) (omega arith) _ _ refl c.read_contract_number-number.ensures))
