use Rattle.std.proofs.Common.{List, ℕ, sym, subst}
use Rattle.core_code.specs.Walks.{AreComponents}
use Rattle.core_code.proofs.Components.{stays_cycle}
use Rattle.core_code.proofs.falling.falling_numbers.Goals as goal

pub returns-then-has_cycle-clause-none : goal.returns-then-has_cycle-clause-none
returns-then-has_cycle-clause-none c none =
    let rows = c.args.rows.now in
    let numbers = c.as_slice.result.now in
    let are : AreComponents rows numbers =
    subst (λ (ns : List ℕ). AreComponents rows ns) (sym c.as_slice.ensures.value) c.in_ok-numbers.ensures in
    let on = c.has_cycle.ensures.yes c.if-has_cycle.true in
    (record { 0 = on.0 }, stays_cycle rows numbers are (record { 0 = on.0 }) on.2)
