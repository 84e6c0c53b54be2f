-- The site of each record of a flow stands in its code.
use Rattle.std.proofs.Common.{◌≡◌, Bool, true, ⊎_elim, is_some, nat_eq, ap}
use Rattle.std.specs.List.{Contains}
use Rattle.std.proofs.lemmas.Bool.{eq-eqb}
use Rattle.racer_base.specs.declared.ids.SiteId.{SiteId}
use Rattle.owner_domain.specs.declared.value.State.{State}
use Rattle.core_code.specs.Tree.{Tree, Operation, steps_of}
use Rattle.core_code.proofs.Membership.{In, find_has}
use Rattle.access_domain.specs.declared.access.Access.{Access}
use Rattle.access_domain.specs.FlowContext.{FlowContext}
use Rattle.access_domain.specs.Flow.{flow}
use Rattle.access_domain.specs.Origins.{IsOwn, IsOfCallee}
use Rattle.access_domain.proofs.Members.{in_from_contains}
use Rattle.access_domain.proofs.RecordOrigins.{origin_in}
use Rattle.core_ways.specs.Ways.{has_site}

stands_there : (code : Tree) (o : Operation) (site : SiteId) → Contains (steps_of code) o → o.site ≡ site →
    has_site code site ≡ true
stands_there code o site there same =
    let found = find_has (λ (x : Operation). nat_eq x.site.0 site.0) (steps_of code) o
    (in_from_contains (steps_of code) o there)
    (eq-eqb o.site.0 site.0 (ap (λ (x : SiteId). x.0) same)) in
    ap is_some found.1

pub record-site : (g : FlowContext) (code : Tree) (locked : Bool) (s : State) (r : Access) →
    In (flow g code locked s).records r → has_site code r.site ≡ true
record-site g code locked s r there =
    ⊎_elim
    (λ (own : IsOwn g code r). stands_there code own.operation r.site own.stands own.site)
    (λ (of : IsOfCallee g code r). stands_there code of.operation r.site of.stands of.site)
    (origin_in g code locked s r there)
