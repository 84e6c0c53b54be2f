-- Where the methods of a program have ranks, none is on a cycle of its rows.
use Rattle.std.proofs.Common.{◌≡◌, ℕ, zero, suc, ◌+◌, ◌<◌, ◌≤◌, Bool, true, false, ◌||◌, inl, inr, List, [], ◌∷◌}
use Rattle.std.proofs.Common.{Option}
use Rattle.std.proofs.Common.{None, Some, length, refl, sym, ap, ◌∙◌, arith, nat_lt, is_none, is_some}
use Rattle.std.proofs.Common.{slice_get, zero-add, add-zero}
use borrow.Author.Tests.{ltb-true}
use Rattle.std.specs.List.{list_any, list_all, enumerate_from}
use Rattle.std.proofs.lemmas.Bool.{eq-eqb, and_parts}
use Rattle.std.proofs.lemmas.List.{length-map}
use Rattle.std.proofs.lemmas.Option.{slice_get_cases}
use Rattle.racer_base.specs.declared.ids.MethodId.{MethodId}
use Rattle.racer_base.proofs.Tests.{or_second}
use Rattle.core_code.specs.Chains.{row_of, Calls, IsChain, IsOnCycle}
use Rattle.core_code.specs.Core.{Core, Method}
use Rattle.core_code.specs.Calls.{calls_in, method_at, is_analysed, rank_of}
use Rattle.core_code.specs.CallFacts.{is_above, are_calls_right, has_ranks}
use Rattle.core_code.specs.CalleeRows.{different, rows_of}
use Rattle.core_code.specs.Tree.{steps_of}
use Rattle.core_code.proofs.Members.{passing, passes, each}
use Rattle.core_code.proofs.ChainLemmas.{caller_in_range}
use Rattle.core_code.proofs.RowCallees.{is_method, analysed_among, right_at, row_at, in_row, method_there, nat_eq-same}
use Rattle.core_code.proofs.RowCallees.{analysed_at}
use Rattle.core_code.specs.declared.code.Reason.{Reason}

pub numbered : (p : ℕ × Method → Bool) (k i : ℕ) (xs : List Method) (x : Method) →
    list_all p (enumerate_from k xs) ≡ true → slice_get xs i ≡ Some x → p (k + i, x) ≡ true
numbered p k i [] x all is = absurd cc
numbered p k zero (y ∷ xs) x all is =
    let same : y ≡ x = cc in
    (λ j. p (add-zero k j, sym same j)) ∙ (and_parts (p (k, y)) (list_all p (enumerate_from (k + 1) xs)) all).0
numbered p k (suc i) (y ∷ xs) x all is =
    let one : k + suc i ≡ (k + 1) + i = omega arith in
    ap (λ (n : ℕ). p (n, x)) one
    ∙ numbered p (k + 1) i xs x (and_parts (p (k, y)) (list_all p (enumerate_from (k + 1) xs)) all).1 is

no_status : (o : Option Method) (method : Method) → o ≡ Some method → analysed_at o ≡ true →
    is_some method.status ≡ false
no_status None method is e = absurd cc
no_status (Some m) method is e =
    let same : m ≡ method = cc in none_is method.status (ap (λ (x : Method). is_none x.status) (sym same) ∙ e)
  where
    none_is : (s : Option Reason) → is_none s ≡ true → is_some s ≡ false
    none_is None h = refl
    none_is (Some r) h = absurd cc

module _ (core : Core) (right : are_calls_right core ≡ true) (ranks : has_ranks core ≡ true) where
  caller : (m n : MethodId) → Calls (rows_of core) m n → (method : Method) × (method_at core m ≡ Some method)
  caller m n call =
      let low : m.0 < length (rows_of core) = caller_in_range (rows_of core) m n call in
      let long : length (rows_of core) ≡ length core.methods =
      length-map core.methods (λ (x : Method). different (calls_in x.code)) in
      elim ((slice_get_cases core.methods m.0).1) [
        | inl r ↦ (r.0, r.2)
        | inr r ↦ absurd (let past : length core.methods ≤ m.0 = r.0 in omega arith)
      ]

  called : (m n : MethodId) (method : Method) → method_at core m ≡ Some method → Calls (rows_of core) m n →
      list_any (is_method n) (calls_in method.code) ≡ true
  called m n method is call =
      sym (in_row n (calls_in method.code))
      ∙ sym (ap (list_any (is_method n)) (row_at core.methods m.0 method is))
      ∙ passes (is_method n) (row_of (rows_of core) m) n call (eq-eqb n.0 n.0 refl)

  called_analysed : (m n : MethodId) → Calls (rows_of core) m n → is_analysed core n ≡ true
  called_analysed m n call =
      let by = caller m n call in
      analysed_among core n (steps_of by.0.code) (right_at core core.methods m.0 by.0 right by.1)
      (called m n by.0 by.1 call)

  below : (m n : MethodId) → is_analysed core m ≡ true → Calls (rows_of core) m n → rank_of core n < rank_of core m
  below m n analysed call =
      let by = method_there (method_at core m) analysed in
      let test : MethodId → Bool = λ k. nat_lt (rank_of core k) (rank_of core m) in
      let above : (is_some by.0.status || list_all test (calls_in by.0.code)) ≡ true =
      ap (λ (k : ℕ). is_above (rank_of core) (k, by.0)) (sym (zero-add m.0))
      ∙ numbered (is_above (rank_of core)) 0 m.0 core.methods by.0 ranks by.1 in
      let found = passing (is_method n) (calls_in by.0.code) (called m n by.0 by.1 call) in
      let same : n ≡ found.0 = sym (nat_eq-same found.0 n found.2) in
      ltb-true (rank_of core n) (rank_of core m)
      (ap test same
      ∙ each test (calls_in by.0.code) found.0
      (or_second (is_some by.0.status) _ (no_status (method_at core m) by.0 by.1 analysed) above) found.1)

  chain_below : (m : MethodId) (between : List MethodId) (n : MethodId) → is_analysed core m ≡ true →
      IsChain (rows_of core) m between n → rank_of core n < rank_of core m
  chain_below m [] n analysed chain = below m n analysed chain
  chain_below m (next ∷ between) n analysed chain =
      let first : rank_of core next < rank_of core m = below m next analysed chain.0 in
      let others : rank_of core n < rank_of core next =
      chain_below next between n (called_analysed m next chain.0) chain.1 in
      omega arith

  last_analysed : (m : MethodId) (between : List MethodId) (n : MethodId) → IsChain (rows_of core) m between n →
      is_analysed core n ≡ true
  last_analysed m [] n chain = called_analysed m n chain
  last_analysed m (next ∷ between) n chain = last_analysed next between n chain.1

  pub no_cycle : (m : MethodId) → IsOnCycle (rows_of core) m → ⊥
  no_cycle m (between, chain) =
      let less : rank_of core m < rank_of core m = chain_below m between m (last_analysed m between m chain) chain in
      omega arith
