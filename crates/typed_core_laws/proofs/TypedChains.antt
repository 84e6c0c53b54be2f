-- Each method that calls lead to from a method that is reached can return.
use Rattle.std.proofs.Common.{◌≡◌, ℕ, zero, suc, Bool, true, false, not, ⊎_elim, List, [], ◌∷◌, Option, None, Some}
use Rattle.std.proofs.Common.{map, slice_get, slice_index_or, refl, sym, ap, subst}
use Rattle.std.specs.List.{Contains}
use Rattle.std.proofs.lemmas.Bool.{not-false}
use Rattle.racer_base.specs.declared.ids.ClassId.{ClassId}
use Rattle.racer_base.specs.declared.ids.MethodId.{MethodId}
use Rattle.core_code.specs.declared.code.Op.{Op as CoreOp}
use Rattle.core_code.specs.declared.code.Op.TheVariants.{Push, PushClass, PushPrim, PushNull, New, Dup, Drop, Get, Put}
use Rattle.core_code.specs.declared.code.Op.TheVariants.{Set, Prim, Outside, Call, Unread, Ret, Throw}
use Rattle.core_code.specs.declared.program.Program.{Program}
use Rattle.core_code.specs.CalleeRows.{code_rows}
use Rattle.core_code.specs.Calls.{called_by, calls_in, calls_of, method_at}
use Rattle.core_code.specs.Chains.{IsChain, row_of}
use Rattle.core_code.specs.Core.{Core, Method}
use Rattle.core_code.specs.Program.{core as core_of}
use Rattle.core_code.specs.Tree.{Operation, can_return, steps_of}
use Rattle.core_code.proofs.Membership.{In, in_flat_map, in_from_Contains}
use Rattle.core_code.proofs.RowCallees.{method_there}
use Rattle.core_ways_laws.specs.ClearLegs.{DoCallsReturn, does_return}
use Rattle.typed_core.specs.Needs.{is_refused}
use Rattle.typed_core_laws.specs.TypedValues.{IsAllowed, is_reached}
use Rattle.typed_core_laws.proofs.TypedReached.{call-reached, reached-analysed}

code-row : (methods : List Method) (i : ℕ) (method : Method) → slice_get methods i ≡ Some method →
    slice_index_or (map (λ (m : Method). calls_in m.code) methods) i [] ≡ calls_in method.code
code-row [] i method is = absurd cc
code-row (m ∷ methods) zero method is = let same : m ≡ method = cc in ap (λ (x : Method). calls_in x.code) same
code-row (m ∷ methods) (suc i) method is = code-row methods i method is

called-op : (op : CoreOp) (n : MethodId) → In (called_by op) n → (count : ℕ) × (op ≡ Call n count)
called-op (Call m count) n h =
    ⊎_elim (λ (same : m ≡ n). (count, ap (λ (x : MethodId). Call x count) same)) (λ none. absurd none) h
called-op (Push v) n h = absurd h
called-op (PushClass c) n h = absurd h
called-op PushPrim n h = absurd h
called-op PushNull n h = absurd h
called-op (New c) n h = absurd h
called-op Dup n h = absurd h
called-op Drop n h = absurd h
called-op (Get f) n h = absurd h
called-op (Put f) n h = absurd h
called-op (Set v) n h = absurd h
called-op (Prim k) n h = absurd h
called-op (Outside k) n h = absurd h
called-op (Unread m k) n h = absurd h
called-op Ret n h = absurd h
called-op Throw n h = absurd h

module _ (p : Program) (class : ClassId)
    (allowed : (m : MethodId) (method : Method) → is_reached (core_of p) class m ≡ true →
    method_at (core_of p) m ≡ Some method → (o : Operation) → In (steps_of method.code) o →
    IsAllowed (core_of p) class o.op) where
  abbrev core : Core
  core = core_of p

  does-return : (n : MethodId) (count : ℕ) → is_refused core (Call n count) ≡ false → does_return core n ≡ true
  does-return n count e =
      (elim (method_at core n) as (λ o.
      (elim o as (λ _. Bool) [ None ↦ true | Some callee ↦ not (can_return callee.code) ]) ≡ false →
      (elim o as (λ _. Bool) [ None ↦ true | Some callee ↦ can_return callee.code ]) ≡ true) [
        | None ↦ λ h. refl
        | Some callee ↦ λ h. not-false (can_return callee.code) h
      ]) e

  -- what a method that is reached calls is in its code
  call-in : (m : MethodId) (method : Method) (n : MethodId) → method_at core m ≡ Some method →
      Contains (row_of (code_rows core) m) n → Contains (calls_in method.code) n
  call-in m method n there call =
      subst (λ (ms : List MethodId). Contains ms n) (code-row core.methods m.0 method there) call

  call-of : (m : MethodId) (method : Method) (n : MethodId) → method_at core m ≡ Some method →
      Contains (calls_in method.code) n → Contains (calls_of core m) n
  call-of m method n there call =
      subst (λ (o : Option Method). Contains (elim o as (λ _. List MethodId) [
        | None ↦ []
        | Some x ↦ calls_in x.code
      ]) n) (sym there) call

  call-returns : (m : MethodId) (method : Method) (n : MethodId) → is_reached core class m ≡ true →
      method_at core m ≡ Some method → Contains (calls_in method.code) n → does_return core n ≡ true
  call-returns m method n reached there call =
      let from = in_flat_map (λ (o : Operation). called_by o.op) (steps_of method.code) n
      (in_from_Contains (calls_in method.code) n call.0 call.1 call.2) in
      let op = called-op from.0.op n from.2 in
      does-return n op.0
      (subst (λ (x : CoreOp). IsAllowed core class x) op.1 (allowed m method reached there from.0 from.1)).2

  chain-returns : (between : List MethodId) (m n : MethodId) → is_reached core class m ≡ true →
      IsChain (code_rows core) m between n → does_return core n ≡ true
  chain-returns [] m n reached chain =
      let method = method_there (method_at core m) (reached-analysed p class m reached) in
      call-returns m method.0 n reached method.1 (call-in m method.0 n method.1 chain)
  chain-returns (next ∷ between) m n reached chain =
      let method = method_there (method_at core m) (reached-analysed p class m reached) in
      chain-returns between next n
      (call-reached p class m next reached
      (call-of m method.0 next method.1 (call-in m method.0 next method.1 chain.0))) chain.1

  pub calls-return : (m : MethodId) → is_reached core class m ≡ true → DoCallsReturn core m
  calls-return m reached between n chain = chain-returns between m n reached chain
