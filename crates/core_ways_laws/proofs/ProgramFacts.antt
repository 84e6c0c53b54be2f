-- What every program keeps of an analysed method.
use Rattle.std.proofs.Common.{◌≡◌, ℕ, ◌<◌, Bool, true, false, cond, ◌||◌, not, List, [], None, Some, is_none}
use Rattle.std.proofs.Common.{is_some, length, nat_eq, nat_lt, refl, sym, ap, subst, ◌∙◌, inl}
use borrow.Author.Tests.{eqb-true}
use Rattle.std.proofs.lemmas.Bool.{ltb-true, not-true, and_parts}
use Rattle.racer_base.specs.declared.ids.MethodId.{MethodId}
use Rattle.racer_base.proofs.Lists.{given_some}
use Rattle.core_code.specs.declared.code.Op.{Op as CoreOp}
use Rattle.core_code.specs.declared.code.Op.TheVariants.{Call}
use Rattle.core_code.specs.declared.program.Program.{Program}
use Rattle.core_code.specs.Tree.{Operation, can_end, steps_of}
use Rattle.core_code.specs.Core.{Core, Method}
use Rattle.core_code.specs.Calls.{method_at, is_analysed, taken_by, rank_of, calls_in, called_by}
use Rattle.core_code.specs.CallFacts.{ends_by_return, has_right_calls, is_right_call, takes}
use Rattle.core_code.specs.Facts.{is_in_order, sites_of, counts_from}
use Rattle.core_code.specs.Kinds.{StackKind}
use Rattle.core_code.specs.KindCheck.{begins_with, is_kinded, kinds_after}
use Rattle.core_code.specs.Program.{core}
use Rattle.core_code.proofs.Membership.{In, flat_map_has}
use Rattle.core_code.proofs.KindLemmas.{where_analysed}
use Rattle.access_domain.specs.Findings.{Known}
use Rattle.access_domain.specs.Summaries.{known_given, known_of, known_of_callees}
use Rattle.access_domain.proofs.KnownMethods.{known_there}
use Rattle.access_domain.proofs.Tests.{passes_at, passes_in}
use Rattle.core_ways.proofs.AloneMethods.{analysed-status, code-there}
use Rattle.core_ways.proofs.Callees.{lower-calls}
use Rattle.core_ways_laws.proofs.FlowLengths.{AreRight}

-- ---- analysed methods

-- what holds of the code of an analysed method
pub record IsRight (core : Core) (method : Method) : Type 0 where
  pub kinds : List StackKind
  pub kinded : kinds_after core method method.code [] ≡ Some kinds
  pub begins : begins_with (taken_by method) method.variables ≡ true
  pub calls : AreRight core method.code
  pub sites : counts_from 0 (sites_of method.code) ≡ true
  pub ends : can_end method.code ≡ false

pub is_right : (p : Program) (m : MethodId) (method : Method) → method_at (core p) m ≡ Some method →
    is_analysed (core p) m ≡ true → IsRight (core p) method
is_right p m method there analysed =
    let none : is_none method.status ≡ true = analysed-status (core p) m method there analysed in
    let begins : Bool = begins_with (taken_by method) method.variables in
    let some : Bool = is_some (kinds_after (core p) method method.code []) in
    let kinded : is_kinded (core p) method ≡ true = where_analysed method.status (is_kinded (core p) method) none
    (passes_at (λ (x : Method). is_some x.status || is_kinded (core p) x) (core p).methods m.0 method p.kinded there) in
    let kinds = given_some (kinds_after (core p) method method.code []) (and_parts begins some kinded).1 in
    let calls : has_right_calls (core p) method ≡ true =
    passes_at (has_right_calls (core p)) (core p).methods m.0 method p.calls_right there in
    record {
      kinds = kinds.0;
      kinded = kinds.1;
      begins = (and_parts begins some kinded).0;
      calls = λ o stands.
          passes_in (λ (x : Operation). is_right_call (core p) x.op) (steps_of method.code) o calls stands;
      sites = passes_at is_in_order (core p).methods m.0 method p.sites_in_order there;
      ends = not-true (can_end method.code) (where_analysed method.status (not (can_end method.code)) none
          (passes_at ends_by_return (core p).methods m.0 method p.ends_by_return there));
    }

-- ---- what is known of a method

-- something is known of an analysed method
pub known_analysed : (core : Core) (m : MethodId) (method : Method) → method_at core m ≡ Some method →
    is_analysed core m ≡ true → (k : Known) × (known_of core m ≡ Some k)
known_analysed core m method there analysed = (
  known_given core (known_of_callees core m) method,
  known_there core m method there
      ∙ ap (λ (b : Bool). cond b (Some (known_given core (known_of_callees core m) method)) None)
      (analysed-status core m method there analysed),
)

-- ---- calls

-- what a right call calls
pub record IsRightCall (core : Core) (m : MethodId) (count : ℕ) : Type 0 where
  pub callee : Method
  pub there : method_at core m ≡ Some callee
  pub analysed : is_analysed core m ≡ true
  pub takes : count ≡ length (taken_by callee)

pub right_call : (core : Core) (m : MethodId) (count : ℕ) → is_right_call core (Call m count) ≡ true →
    IsRightCall core m count
right_call core m count right =
    let counts : takes core m count ≡ true = (and_parts (is_analysed core m) (takes core m count) right).1 in
    elim (method_at core m) as (λ o. method_at core m ≡ o →
    elim o as (λ _. Bool) [ None ↦ false | Some x ↦ nat_eq count (length (taken_by x)) ] ≡ true →
    IsRightCall core m count) [
      | None ↦ λ is e. cc
      | Some callee ↦ λ is e.
          record {
            callee = callee;
            there = is;
            analysed = (and_parts (is_analysed core m) (takes core m count) right).0;
            takes = eqb-true count (length (taken_by callee)) e;
          }
    ] refl counts

-- the methods that an analysed method calls have smaller ranks
pub lower_call : (p : Program) (m : MethodId) (method : Method) → method_at (core p) m ≡ Some method →
    is_analysed (core p) m ≡ true → (o : Operation) → In (steps_of method.code) o → (callee : MethodId) (count : ℕ) →
    o.op ≡ Call callee count → rank_of (core p) callee < rank_of (core p) m
lower_call p m method there analysed o stands callee count is =
    let low = lower-calls (core p) m method.code p.ranks_there (code-there (core p) m method there analysed) in
    let member : In (calls_in method.code) callee =
    flat_map_has (λ (x : Operation). called_by x.op) (steps_of method.code) o callee stands
    (subst (λ (op : CoreOp). In (called_by op) callee) (sym is) (inl refl)) in
    ltb-true (rank_of (core p) callee) (rank_of (core p) m)
    (passes_in (λ (x : MethodId). nat_lt (rank_of (core p) x) (rank_of (core p) m)) (calls_in method.code) callee low
    member)
