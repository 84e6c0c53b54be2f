-- A contract of a public call rests on this: what `substitute` gives.
use Rattle.std.specs.Prelude.{◌≡◌, Bool, List, None}
use Rattle.std.specs.FinSet as set
use Rattle.racer_base.specs.declared.ids.MethodId.{MethodId}
use Rattle.racer_base.specs.declared.ids.SiteId.{SiteId}
use Rattle.access_paths.specs.Order.{PathSet}
use Rattle.owner_domain.specs.declared.value.Value.{Value}
use Rattle.core_code.specs.Core.{Core}
use Rattle.access_domain.specs.declared.access.Access.{Access}
use Rattle.access_domain.specs.declared.summary.Summary.{Summary}
use Rattle.access_domain.specs.Findings.{Findings, summary_from}
use Rattle.access_domain.specs.FlowContext.{FlowContext, given_of, is_static_method}
use Rattle.access_domain.specs.Substitution.{actuals_from, substituted}

-- the records and the different wobbly paths of these findings
abbrev pub AreFindings : Findings → List Access → PathSet → Type 0
AreFindings found records wobbly = (records ≡ found.records) × (wobbly ≡ set.from_list found.wobbly)

-- what substitution is given of a program; what is known of methods plays no part in it
abbrev pub given_at : Core → Bool → FlowContext
given_at core main = given_of core (λ m. None) main

-- Whatever findings the callee's summary holds, the records and wobbly paths that are made are those of these findings
-- in the caller's values.
abbrev pub IsSubstituted : Core → MethodId → List Value → Bool → Bool → SiteId → Summary → List Access → PathSet →
    Type 0
IsSubstituted core callee values locked main site summary records wobbly =
    (found : Findings) → summary_from found ≡ summary →
    AreFindings (substituted (given_at core main) (actuals_from (is_static_method core callee) values) found locked
    site)
    records wobbly
