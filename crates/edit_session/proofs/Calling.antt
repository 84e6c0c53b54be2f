-- The methods that an analysed method calls: they are analysed and stand in its row, and their levels are smaller.
use Rattle.std.proofs.Common.{◌≡◌, ℕ, zero, suc, ◌<◌, ◌≤◌, Bool, true, ◌||◌, List, [], ◌∷◌, Option, None}
use Rattle.std.proofs.Common.{Some, is_none, is_some, length, map, nat_lt, refl, sym, ap, subst, ◌∙◌, arith, zero-add}
use Rattle.std.proofs.lemmas.Bool.{eq-eqb, ltb-true}
use Rattle.std.proofs.lemmas.Option.{slice_get_within}
use Rattle.std.specs.List.{Contains, list_all, list_any}
use Rattle.racer_base.specs.declared.ids.MethodId.{MethodId}
use Rattle.core_code.specs.Calls.{calls_in, calls_of, chain_within, greatest, is_analysed, method_at, rank_of}
use Rattle.core_code.specs.CallFacts.{are_calls_right, has_ranks, is_above}
use Rattle.core_code.specs.CalleeRows.{rows_of}
use Rattle.core_code.specs.Chains.{row_of}
use Rattle.core_code.specs.Core.{Core, Method}
use Rattle.core_code.specs.Tree.{steps_of}
use Rattle.core_code.proofs.KindLemmas.{where_analysed}
use Rattle.core_code.proofs.Members.{each, passes, passing}
use Rattle.core_code.proofs.NoCycles.{numbered}
use Rattle.core_code.proofs.RowCallees.{analysed_among, analysed_at, in_row_called, is_method, method_there, nat_eq-same}
use Rattle.core_code.proofs.RowCallees.{right_at}
use Rattle.transfer_ties.specs.Again.{level_of}

-- the calls of the method that is there
pub calls_are : (core : Core) (m : MethodId) (method : Method) → method_at core m ≡ Some method →
    calls_of core m ≡ calls_in method.code
calls_are core m method is =
    ap (λ (o : Option Method). elim o as (λ _. List MethodId) [ None ↦ [] | Some x ↦ calls_in x.code ]) is

pub analysed_low : (core : Core) (m : MethodId) → is_analysed core m ≡ true → m.0 < length core.methods
analysed_low core m analysed =
    let by = method_there (method_at core m) analysed in
    slice_get_within core.methods m.0 by.0 by.1

-- what stands in a row is called
pub in_calls : (core : Core) (m n : MethodId) → is_analysed core m ≡ true → Contains (row_of (rows_of core) m) n →
    Contains (calls_of core m) n
in_calls core m n analysed there =
    let any : list_any (is_method n) (row_of (rows_of core) m) ≡ true =
    passes (is_method n) (row_of (rows_of core) m) n there (eq-eqb n.0 n.0 refl) in
    let found = passing (is_method n) (calls_of core m) (sym (in_row_called core m n analysed) ∙ any) in
    subst (Contains (calls_of core m)) (nat_eq-same found.0 n found.2) found.1

greatest_within : {X : Type 0} (f : X → ℕ) (k : ℕ) (xs : List X) → ((x : X) → f x ≤ k) → greatest (map f xs) ≤ k
greatest_within f k [] most = omega arith
greatest_within f k (x ∷ xs) most =
    let here : f x ≤ k = most x in
    let rest : greatest (map f xs) ≤ k = greatest_within f k xs most in
    omega arith

pub chain_most : (core : Core) (k : ℕ) (m : MethodId) → chain_within k core m ≤ k
chain_most core zero m = omega arith
chain_most core (suc k) m =
    let rest : greatest (map (chain_within k core) (calls_of core m)) ≤ k =
    greatest_within (chain_within k core) k (calls_of core m) (chain_most core k) in
    omega arith

pub chain_some : (core : Core) (k : ℕ) (m : MethodId) → 0 < k → 0 < chain_within k core m
chain_some core zero m some = absurd (omega arith)
chain_some core (suc k) m some = omega arith

module _ (core : Core) (right : are_calls_right core ≡ true) (ranks : has_ranks core ≡ true) where
  pub callee_analysed : (m n : MethodId) → is_analysed core m ≡ true → Contains (calls_of core m) n →
      is_analysed core n ≡ true
  callee_analysed m n analysed call =
      let by = method_there (method_at core m) analysed in
      let there : Contains (calls_in by.0.code) n =
      subst (λ (ms : List MethodId). Contains ms n) (calls_are core m by.0 by.1) call in
      analysed_among core n (steps_of by.0.code) (right_at core core.methods m.0 by.0 right by.1)
      (passes (is_method n) (calls_in by.0.code) n there (eq-eqb n.0 n.0 refl))

  pub rank_falls : (m n : MethodId) → is_analysed core m ≡ true → Contains (calls_of core m) n →
      rank_of core n < rank_of core m
  rank_falls m n analysed call =
      let by = method_there (method_at core m) analysed in
      let test : MethodId → Bool = λ k. nat_lt (rank_of core k) (rank_of core m) in
      let above : (is_some by.0.status || list_all test (calls_in by.0.code)) ≡ true =
      ap (λ (k : ℕ). is_above (rank_of core) (k, by.0)) (sym (zero-add m.0))
      ∙ numbered (is_above (rank_of core)) 0 m.0 core.methods by.0 ranks by.1 in
      let none : is_none by.0.status ≡ true = ap analysed_at (sym by.1) ∙ analysed in
      let there : Contains (calls_in by.0.code) n =
      subst (λ (ms : List MethodId). Contains ms n) (calls_are core m by.0 by.1) call in
      ltb-true (rank_of core n) (rank_of core m)
      (each test (calls_in by.0.code) n
      (where_analysed by.0.status (list_all test (calls_in by.0.code)) none above) there)

  pub level_falls : (m n : MethodId) → is_analysed core m ≡ true → Contains (row_of (rows_of core) m) n →
      level_of core n < level_of core m
  level_falls m n analysed there =
      let call = in_calls core m n analysed there in
      let less : rank_of core n < rank_of core m = rank_falls m n analysed call in
      let low : m.0 < length core.methods = analysed_low core m analysed in
      let some : 0 < rank_of core n = chain_some core (length core.methods) n (omega arith) in
      omega arith
