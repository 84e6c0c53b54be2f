use Rattle.std.proofs.Common.{◌≡◌, reverse, sym, ◌∙◌}
use Rattle.owner_domain.proofs.MetValues.{equal-numbers}
use Rattle.owner_domain.proofs.Stacks.{stack_of}
use Rattle.owner_domain.proofs.flow_state.FlowState.is_same.Goals as goal

pub returns-then-eq : goal.returns-then-eq
returns-then-eq c = λ same.
    let vars : c.other.inside.vars.items ≡ c.self.inside.vars.items =
    sym c.as_slice-2.ensures.value
    ∙ equal-numbers c.as_slice.result.now c.as_slice-2.result.now (sym c.eq.ensures ∙ c.if-eq.true)
    ∙ c.as_slice.ensures.value in
    let stack : c.other.inside.stack.items ≡ c.self.inside.stack.items =
    sym c.as_slice-then-eq-2.ensures.value
    ∙ equal-numbers c.as_slice-then-eq.result.now c.as_slice-then-eq-2.result.now (sym c.eq-then-eq.ensures ∙ same)
    ∙ c.as_slice-then-eq.ensures.value in
    sym c.other.view_is ∙ (λ i. stack_of (vars i) (reverse (stack i))) ∙ c.self.view_is
