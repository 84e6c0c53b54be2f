-- Methods that are passed, by rank, run by one thread beside one that holds no monitor.
use Rattle.std.proofs.Common.{◌≡◌, ℕ, zero, suc, Bool, true, false, cond, List, [], ◌∷◌, ◌++◌, Option, None, Some}
use Rattle.std.proofs.Common.{◌&&◌, ◌||◌, refl, sym, ap, ◌∙◌, subst, arith}
use Rattle.racer_base.specs.declared.ids.MethodId.{MethodId}
use Rattle.core_code.specs.declared.code.Op.{Op as CoreOp}
use Rattle.core_code.specs.declared.code.Op.TheVariants.{Call}
use Rattle.core_code.specs.Calls.{calls_in, is_analysed, method_at, rank_of}
use Rattle.core_code.specs.CallFacts.{are_calls_right, do_end_by_return, ends_by_return, has_ranks, has_right_calls}
use Rattle.core_code.specs.CallFacts.{is_right_call, takes}
use Rattle.core_code.specs.declared.code.Reason.{Reason}
use Rattle.core_code.specs.Core.{Core, Method}
use Rattle.core_code.specs.Tree.{Tree, Operation}
use Rattle.core_code.specs.Tree.{can_end, can_return, steps_of}
use Rattle.core_code.specs.Calls.{called_by}
use Rattle.std.specs.List.{list_all, flat_map}
use Rattle.std.specs.Option.{option_and_then}
use Rattle.core_ways.proofs.Callees.{do_pass, lower-calls, lower-parts}
use Rattle.core_ways.proofs.Trips.{trip_of-parts}
use Rattle.std.proofs.Common.{is_none, is_some, nat_lt, not, ◌<◌}
use Rattle.std.proofs.lemmas.Bool.{ltb-true, and_from, and_parts}
use Rattle.core_semantics.specs.State.{before}
use Rattle.core_ways.specs.declared.part.WayPart.{WayPart}
use Rattle.core_ways.specs.Alone.{here}
use Rattle.core_semantics.specs.declared.answer.Holder.{Holder}
use Rattle.core_ways.specs.Alone.{HasReturned, MethodRuns, RunsBack}
use Rattle.core_ways.specs.Ways.{Trip, trip_along, trip_of, to_return, code_at}
use Rattle.access_domain.proofs.Tests.{passes_at}
use Rattle.core_ways.proofs.Alone.{Leads, drop-none}
use Rattle.core_ways.proofs.AloneBack.{runs-back}

both-pass : (f g : MethodId → Bool) (ms : List MethodId) → list_all f ms ≡ true → list_all g ms ≡ true →
    list_all (λ n. f n && g n) ms ≡ true
both-pass f g [] a b = refl
both-pass f g (m ∷ ms) a b =
    and_from (f m && g m) (list_all (λ n. f n && g n) ms)
    (and_from (f m) (g m) (and_parts (f m) (list_all f ms) a).0 (and_parts (g m) (list_all g ms) b).0)
    (both-pass f g ms (and_parts (f m) (list_all f ms) a).1 (and_parts (g m) (list_all g ms) b).1)

analysed-op : (core : Core) (op : CoreOp) (rest : List MethodId) → is_right_call core op ≡ true →
    list_all (is_analysed core) rest ≡ true → list_all (is_analysed core) (called_by op ++ rest) ≡ true
analysed-op core (Call m n) rest right others =
    and_from (is_analysed core m) (list_all (is_analysed core) rest)
    (and_parts (is_analysed core m) (takes core m n) right).0 others
analysed-op core op rest right others = others

analysed-calls : (core : Core) (ops : List Operation) →
    list_all (λ (o : Operation). is_right_call core o.op) ops ≡ true →
    do_pass (is_analysed core) ops ≡ true
analysed-calls core [] right = refl
analysed-calls core (o ∷ ops) right =
    analysed-op core o.op (flat_map (λ (x : Operation). called_by x.op) ops)
    (and_parts (is_right_call core o.op) (list_all (λ (x : Operation). is_right_call core x.op) ops) right).0
    (analysed-calls core ops
    (and_parts (is_right_call core o.op) (list_all (λ (x : Operation). is_right_call core x.op) ops) right).1)

-- what a program keeps of its calls
pub record AreRight (core : Core) : Type 0 where
  pub ranks : has_ranks core ≡ true
  pub calls : are_calls_right core ≡ true
  pub ends : do_end_by_return core ≡ true

pub analysed-status : (core : Core) (m : MethodId) (method : Method) → method_at core m ≡ Some method →
    is_analysed core m ≡ true → is_none method.status ≡ true
analysed-status core m method is analysed =
    sym (ap (λ (o : Option Method). elim o as (λ _. Bool) [ None ↦ false | Some x ↦ is_none x.status ]) is) ∙ analysed

pub never-ends : (o : Option Reason) (b : Bool) → is_none o ≡ true → (is_some o || not b) ≡ true → b ≡ false
never-ends None true none e = absurd cc
never-ends None false none e = refl
never-ends (Some r) b none e = absurd cc

abbrev pub may_call : Core → MethodId → MethodId → Bool
may_call core m n = nat_lt (rank_of core n) (rank_of core m) && is_analysed core n

-- the calls of an analysed method's code
pub calls-pass : (core : Core) (right : AreRight core) (m : MethodId) (method : Method) →
    method_at core m ≡ Some method → code_at core m ≡ Some method.code →
    do_pass (may_call core m) (steps_of method.code) ≡ true
calls-pass core right m method is at =
    both-pass (λ n. nat_lt (rank_of core n) (rank_of core m)) (is_analysed core) (calls_in method.code)
    (lower-calls core m method.code right.ranks at)
    (analysed-calls core (steps_of method.code)
    (passes_at (has_right_calls core) core.methods m.0 method right.calls is))

pub code-there : (core : Core) (m : MethodId) (method : Method) → method_at core m ≡ Some method →
    is_analysed core m ≡ true → code_at core m ≡ Some method.code
code-there core m method is analysed =
    ap (λ (o : Option Method). option_and_then (λ (x : Method). cond (is_none x.status) (Some x.code) None) o) is
    ∙ ap (λ (b : Bool). cond b (Some method.code) None) (analysed-status core m method is analysed)

pub method-runs : (core : Core) (right : AreRight core) (k : ℕ) (m : MethodId) → rank_of core m < k →
    is_analysed core m ≡ true → MethodRuns core (trip_of core) m
method-runs core right zero m low analysed method is = absurd (omega arith)
method-runs core right (suc k) m low analysed method is =
    let code = method.code in
    let status = analysed-status core m method is analysed in
    let at : code_at core m ≡ Some code = code-there core m method is analysed in
    let calls : do_pass (may_call core m) (steps_of code) ≡ true = calls-pass core right m method is at in
    let holds : (n : MethodId) → may_call core m n ≡ true → MethodRuns core (trip_of core) n = λ n may.
    method-runs core right k n
    (let below = ltb-true (rank_of core n) (rank_of core m)
    (and_parts (nat_lt (rank_of core n) (rank_of core m)) (is_analysed core n) may).0 in omega arith)
    (and_parts (nat_lt (rank_of core n) (rank_of core m)) (is_analysed core n) may).1 in
    let ends : can_end code ≡ false =
    never-ends method.status (can_end code) status
    (passes_at ends_by_return core.methods m.0 method right.ends is) in
    let back : RunsBack core (trip_of core) code =
    runs-back core (trip_of core) (may_call core m) holds code (ap (λ (b : Bool). not b || can_return code) ends)
    calls in
    let trip : trip_of core m ≡ trip_along (trip_of core) (to_return 0 code) =
    trip_of-parts core m (lower-parts core m right.ranks)
    ∙ ap (λ (o : Option Tree).
    trip_along (trip_of core) (elim o as (λ _. List WayPart) [ None ↦ [] | Some c ↦ to_return 0 c ])) at in
    λ store vars callers locks.
    subst (λ (t : Trip). Leads core t (here store vars [] (before code []) 0 callers locks) (HasReturned callers locks))
    (sym trip)
    (subst (λ (ls : List Holder). Leads core (trip_along (trip_of core) (to_return 0 code))
    (here store vars [] (before code []) 0 callers locks) (HasReturned callers ls)) (drop-none locks)
    (back 0 store vars [] [] callers locks))

-- the methods that an analysed method may call run
pub callees-run : (core : Core) (right : AreRight core) (m n : MethodId) → may_call core m n ≡ true →
    MethodRuns core (trip_of core) n
callees-run core right m n may =
    method-runs core right (suc (rank_of core n)) n (omega arith)
    (and_parts (nat_lt (rank_of core n) (rank_of core m)) (is_analysed core n) may).1
