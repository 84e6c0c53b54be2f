-- Where a record of a method comes from.
use Rattle.std.proofs.Common.{◌≡◌, Bool, false, inl, inr, ⊎_elim, Some, sym, ap, ◌∙◌}
use Rattle.std.specs.List.{Contains}
use Rattle.racer_base.specs.declared.ids.MethodId.{MethodId}
use Rattle.owner_domain.specs.declared.value.State.{State}
use Rattle.core_code.specs.Core.{Core, Method}
use Rattle.core_code.specs.Calls.{method_at}
use Rattle.core_code.specs.Tree.{Tree, steps_of}
use Rattle.core_code.proofs.Membership.{In}
use Rattle.access_domain.specs.declared.access.Access.{Access}
use Rattle.access_domain.specs.Findings.{Findings, Known, Table, Whole}
use Rattle.access_domain.specs.Flow.{flow}
use Rattle.access_domain.specs.FlowContext.{FlowContext, given_of}
use Rattle.access_domain.specs.Operations.{slot_of, passed_from}
use Rattle.access_domain.specs.Origins.{HasOrigin}
use Rattle.access_domain.specs.Substitution.{actuals_from}
use Rattle.access_domain.specs.Summaries.{known_of, known_of_callees, start_of}
use Rattle.access_domain.proofs.KnownMethods.{callee_lower, record_made}
use Rattle.access_domain.proofs.Members.{contains_from_in, in_from_contains}
use Rattle.access_domain.proofs.OperationRecords.{IsByCall, IsByTouch, op_record}
use Rattle.access_domain.proofs.ReachedStates.{ComesTo, Gives, Spot, record_spot, spot_stands}

-- a record of a spot has its origin there, and so it has where more is known of the methods
at_spot : (g : FlowContext) (all : Table) (code : Tree) (locked : Bool) (s : State) (a : Access) (x : Spot) →
    ((m : MethodId) (k : Known) → g.known_of m ≡ Some k → all m ≡ Some k) → ComesTo g code locked s x → Gives g a x →
    HasOrigin (record g { known_of = all }) code a
at_spot g all code locked s a x more comes gives =
    let stands : Contains (steps_of code) x.operation =
    contains_from_in (steps_of code) x.operation (spot_stands g code locked s x comes) in
    ⊎_elim
    (λ (of : IsByTouch g x.held x.operation.site x.operation.op x.state a).
    inl (record {
      operation = x.operation;
      stands = stands;
      site = ap (λ (r : Access). r.site) of.made.is;
      touches = of.touches ∙ ap (λ (r : Access). Some r.kind) of.made.is;
      field = of.field;
      names = of.names;
      recorded = of.made.recorded;
      base = slot_of x.state of.slot;
      path = of.made.path;
      main = ap (λ (r : Access). r.main) (sym of.made.is);
      below = ap (λ (r : Access). r.below) (sym of.made.is);
    }))
    (λ (of : IsByCall g x.held x.operation.site x.operation.op x.state a).
    inr (record {
      operation = x.operation;
      stands = stands;
      site = ap (λ (r : Access). r.site) of.made.is;
      callee = of.callee;
      count = of.count;
      calls = of.calls;
      found = of.found;
      known = more of.callee (Whole of.found) of.known;
      index = of.made.index;
      below = ap (λ (r : Access). r.below) (sym of.made.is);
      inner = of.made.inner;
      has = of.made.has;
      kind = ap (λ (r : Access). r.kind) (sym of.made.is);
      main = ap (λ (r : Access). r.main) (sym of.made.is);
      actuals = actuals_from (g.is_static of.callee) (passed_from x.state of.count);
      path = of.made.path;
    }))
    (op_record g x.held x.operation.site x.operation.op x.state a gives)

origin_among : (g : FlowContext) (all : Table) (code : Tree) (locked : Bool) (s : State) (a : Access) →
    ((m : MethodId) (k : Known) → g.known_of m ≡ Some k → all m ≡ Some k) → In (flow g code locked s).records a →
    HasOrigin (record g { known_of = all }) code a
origin_among g all code locked s a more h =
    let spot = record_spot g code locked s a h in at_spot g all code locked s a spot.0 more spot.1 spot.2

-- each record of a flow is an operation's own, or one of a callee
pub origin_in : (g : FlowContext) (code : Tree) (locked : Bool) (s : State) (a : Access) →
    In (flow g code locked s).records a → HasOrigin g code a
origin_in g code locked s a h = origin_among g g.known_of code locked s a (λ m k known. known) h

pub origin : (g : FlowContext) (code : Tree) (locked : Bool) (s : State) (a : Access) →
    Contains (flow g code locked s).records a → HasOrigin g code a
origin g code locked s a h =
    origin_in g code locked s a (in_from_contains (flow g code locked s).records a h)

-- each record that is known of a method is an operation's own, or one of a callee
pub origin_of_method : (core : Core) (m : MethodId) (method : Method) (found : Findings) (a : Access) →
    method_at core m ≡ Some method →
    known_of core m ≡ Some (Whole found) → Contains found.records a →
    HasOrigin (given_of core (known_of core) method.main) method.code a
origin_of_method core m method found a there known h =
    origin_among (given_of core (known_of_callees core m) method.main) (known_of core) method.code false
    (start_of method) a (λ callee k given. (callee_lower core m callee k given).1)
    (record_made core m method found a there known (in_from_contains found.records a h))
