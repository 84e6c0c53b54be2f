-- Methods that are passed, by rank, are not stuck at a throw where each method that reached code calls can return.
use Rattle.std.proofs.Common.{◌≡◌, ℕ, zero, suc, ◌<◌, Bool, true, List, [], ◌∷◌, Option, None, Some, inl}
use Rattle.std.proofs.Common.{refl, sym, ap, ◌∙◌, subst, arith, nat_lt, map, slice_get, slice_index_or}
use Rattle.std.proofs.lemmas.Bool.{ltb-true, and_parts}
use Rattle.std.specs.List.{Contains}
use Rattle.racer_base.specs.declared.ids.MethodId.{MethodId}
use Rattle.core_code.specs.declared.code.Op.{Op as CoreOp}
use Rattle.core_code.specs.declared.code.Op.TheVariants.{Call}
use Rattle.core_code.specs.CalleeRows.{code_rows}
use Rattle.core_code.specs.Calls.{called_by, calls_in, is_analysed, method_at, rank_of}
use Rattle.core_code.specs.Chains.{Calls}
use Rattle.core_code.specs.Core.{Core, Method}
use Rattle.core_code.specs.Tree.{Operation, Tree, can_return, steps_of}
use Rattle.core_code.proofs.Membership.{In, flat_map_has}
use Rattle.core_semantics.specs.State.{before}
use Rattle.core_ways.specs.declared.part.WayPart.{WayPart}
use Rattle.core_ways.specs.Alone.{here}
use Rattle.core_ways.specs.Ways.{Trip, code_at, to_return, trip_along, trip_of}
use Rattle.core_ways.proofs.AloneMethods.{AreRight, callees-run, calls-pass, code-there, may_call}
use Rattle.core_ways.proofs.Callees.{do_pass, lower-parts}
use Rattle.core_ways.proofs.Trips.{trip_of-parts}
use Rattle.core_ways_laws.specs.ClearLegs.{DoCallsReturn, does_return}
use Rattle.core_ways_laws.proofs.Clear.{clears-back}
use Rattle.core_ways_laws.proofs.ClearSteps.{AreCallsClear, ClearBack, LeadsClear, MethodClear}
use Rattle.access_domain.proofs.Members.{contains_from_in}
use Rattle.access_domain.proofs.Tests.{passes_in}

-- ---- what code calls

row-has : (methods : List Method) (i : ℕ) (method : Method) (n : MethodId) → slice_get methods i ≡ Some method →
    Contains (calls_in method.code) n →
    Contains (slice_index_or (map (λ (m : Method). calls_in m.code) methods) i []) n
row-has [] i method n is call = absurd cc
row-has (m ∷ methods) zero method n is call =
    let same : m ≡ method = cc in subst (λ (x : Method). Contains (calls_in x.code) n) (sym same) call
row-has (m ∷ methods) (suc i) method n is call = row-has methods i method n is call

-- a call in code is of a method that it calls
called-in : (code : Tree) (n : MethodId) (count : ℕ) (o : Operation) → In (steps_of code) o → o.op ≡ Call n count →
    In (calls_in code) n
called-in code n count o there call =
    flat_map_has (λ (x : Operation). called_by x.op) (steps_of code) o n there
    (subst (λ (op : CoreOp). In (called_by op) n) (sym call) (inl refl))

-- a call in the code of a method is in its row
pub call-in-row : (core : Core) (m n : MethodId) (count : ℕ) (method : Method) (o : Operation) →
    method_at core m ≡ Some method → In (steps_of method.code) o → o.op ≡ Call n count → Calls (code_rows core) m n
call-in-row core m n count method o is there call =
    row-has core.methods m.0 method n is
    (contains_from_in (calls_in method.code) n (called-in method.code n count o there call))

-- what a method reaches through one that it calls, it reaches
pub calls-further : (core : Core) (m n : MethodId) → Calls (code_rows core) m n → DoCallsReturn core m →
    DoCallsReturn core n
calls-further core m n call each between k chain = each (n ∷ between) k (call, chain)

-- ---- by rank

-- each method that is called is clear, where those of smaller ranks are
calls-clear : (core : Core) (right : AreRight core) (m : MethodId) (method : Method) → method_at core m ≡ Some method →
    do_pass (may_call core m) (steps_of method.code) ≡ true → DoCallsReturn core m →
    ((n : MethodId) → may_call core m n ≡ true → does_return core n ≡ true → DoCallsReturn core n →
    MethodClear core (trip_of core) n) →
    AreCallsClear core (trip_of core) method.code
calls-clear core right m method is calls each lower o there n count call =
    let row : Calls (code_rows core) m n = call-in-row core m n count method o is there call in
    lower n
    (passes_in (may_call core m) (calls_in method.code) n calls (called-in method.code n count o there call))
    (each [] n row) (calls-further core m n row each)

pub method-clear : (core : Core) (right : AreRight core) (k : ℕ) (m : MethodId) → rank_of core m < k →
    is_analysed core m ≡ true → does_return core m ≡ true → DoCallsReturn core m → MethodClear core (trip_of core) m
method-clear core right zero m low analysed returns each method is = absurd (omega arith)
method-clear core right (suc k) m low analysed returns each method is =
    let code = method.code in
    let at : code_at core m ≡ Some code = code-there core m method is analysed in
    let calls : do_pass (may_call core m) (steps_of code) ≡ true = calls-pass core right m method is at in
    let clear : AreCallsClear core (trip_of core) code = calls-clear core right m method is calls each
    (λ n may comes further. method-clear core right k n
    (let below = ltb-true (rank_of core n) (rank_of core m)
    (and_parts (nat_lt (rank_of core n) (rank_of core m)) (is_analysed core n) may).0 in omega arith)
    (and_parts (nat_lt (rank_of core n) (rank_of core m)) (is_analysed core n) may).1 comes further) in
    let comes : can_return code ≡ true =
    sym (ap (λ (o : Option Method). elim o as (λ _. Bool) [ None ↦ true | Some x ↦ can_return x.code ]) is) ∙ returns in
    let back : ClearBack core (trip_of core) code =
    clears-back core (trip_of core) (may_call core m) (callees-run core right m) code comes calls clear in
    let trip : trip_of core m ≡ trip_along (trip_of core) (to_return 0 code) =
    trip_of-parts core m (lower-parts core m right.ranks)
    ∙ ap (λ (o : Option Tree).
    trip_along (trip_of core) (elim o as (λ _. List WayPart) [ None ↦ [] | Some c ↦ to_return 0 c ])) at in
    λ store vars callers locks.
    subst (λ (t : Trip). LeadsClear core t.turns t.steps (here store vars [] (before code []) 0 callers locks))
    (sym trip)
    (back 0 store vars [] [] callers locks)

-- the methods that an analysed method calls are clear
pub callees-clear : (core : Core) (right : AreRight core) (m : MethodId) (method : Method) →
    method_at core m ≡ Some method → do_pass (may_call core m) (steps_of method.code) ≡ true → DoCallsReturn core m →
    AreCallsClear core (trip_of core) method.code
callees-clear core right m method is calls each =
    calls-clear core right m method is calls each
    (λ n may returns further.
    method-clear core right (suc (rank_of core n)) n (omega arith)
    (and_parts (nat_lt (rank_of core n) (rank_of core m)) (is_analysed core n) may).1 returns further)
