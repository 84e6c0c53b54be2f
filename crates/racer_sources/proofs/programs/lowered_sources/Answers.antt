use Rattle.std.proofs.Common.{List, String, Global, map, string_bytes, sym, subst}
use Rattle.std.specs.Prelude.{IfOk}
use Rattle.java_tree.specs.declared.unit.Unit as unit
use Rattle.racer_sources.specs.Finding.{AreKnown}
use Rattle.racer_sources.specs.Lowering.{IsLoweredFrom}
use Rattle.racer_sources.proofs.programs.lowered_sources.Goals as goal

pub lowered-requires : goal.lowered-requires
lowered-requires c =
    let found = c.args.found.now in
    subst (λ (us : List unit.Unit). AreKnown (map string_bytes c.as_slice-names.result.now) us found.table)
    (sym c.as_slice.ensures.value)
    (subst (λ (ns : List (String Global)). AreKnown (map string_bytes ns) found.units.items found.table)
    (sym c.as_slice-names.ensures.value) c.requires)

pub returns : goal.returns
returns c =
    let made = c.lowered.result in
    let containers = c.args.containers in
    subst (λ (us : List unit.Unit). IfOk made
    (IsLoweredFrom containers (map string_bytes c.args.found.now.names.items) us)) c.as_slice.ensures.value
    (subst (λ (ns : List (String Global)). IfOk made
    (IsLoweredFrom containers (map string_bytes ns) c.as_slice.result.now)) c.as_slice-names.ensures.value
    c.lowered.ensures)
