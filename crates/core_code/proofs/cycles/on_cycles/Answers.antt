use Rattle.std.proofs.Common.{◌≡◌, List, ℕ, length, sym, subst, IfOk}
use Rattle.std.specs.Prelude.{Ok, Err}
use Rattle.core_code.specs.Chains.{TellCycles}
use Rattle.core_code.specs.Walks.{AreComponents, AreStays}
use Rattle.core_code.proofs.Components.{tell_cycles}
use Rattle.core_code.proofs.cycles.on_cycles.Goals as goal

pub returns-clause-exact : goal.returns-clause-exact
returns-clause-exact c =
    let rows = c.args.rows.now in
    let numbers = c.as_slice.result.now in
    let are : AreComponents rows numbers =
    subst (λ (ns : List ℕ). AreComponents rows ns) (sym c.as_slice.ensures.value) c.in_ok-numbers.ensures in
    elim c.stays.result as (λ r. IfOk r (λ flags. AreStays rows numbers (length rows) flags.items) →
    IfOk r (λ flags. length flags.items ≡ length rows) → IfOk r (λ flags. TellCycles rows flags.items)) [
      | Ok flags ↦ λ stays count. tell_cycles rows numbers are flags.items count stays
      | Err e ↦ λ _ _. tt
    ] c.stays.ensures.flags c.stays.ensures.length
