use Rattle.std.proofs.Common.{◌≡◌, List, None, refl, subst}
use Rattle.java_tree.specs.declared.unit.Unit as unit
use Rattle.java_resolver.specs.Refusals.{refusal}
use Rattle.racer_sources.specs.Declaring.{IsDeclaredFault}
use Rattle.racer_sources.specs.Finding.{IsTableOf}
use Rattle.racer_sources.proofs.found.with_table.Goals as goal

pub returns-in-Ok-clause-ok : goal.returns-in-Ok-clause-ok
returns-in-Ok-clause-ok c =
    let same = c.as_slice.ensures.value in
    record {
      units_are = refl;
      table = subst (λ (us : List unit.Unit). IsTableOf us c.in-Ok.table) same c.in-Ok.ensures.table;
      none = subst (λ (us : List unit.Unit). refusal us ≡ None) same c.in-Ok.ensures.none;
    }

pub returns-in-Err-clause-fault : goal.returns-in-Err-clause-fault
returns-in-Err-clause-fault c =
    subst (λ (us : List unit.Unit). IsDeclaredFault us c.in-Err.fault) c.as_slice.ensures.value c.in-Err.ensures.fault
