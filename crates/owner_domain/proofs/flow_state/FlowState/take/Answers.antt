use Rattle.std.proofs.Common.{◌≡◌, ◌-◌, length, reverse, ap, ◌∙◌, arith}
use Rattle.owner_domain.specs.declared.numbered.NumberedState.{NumberedState}
use Rattle.owner_domain.specs.Slots.{popped_numbers, passed_numbers}
use Rattle.owner_domain.proofs.Stacks.{taken-values, taken-rest, stack_of}
use Rattle.owner_domain.proofs.flow_state.FlowState.take.Goals as goal

pub returns-clause-values : goal.returns-clause-values
returns-clause-values c =
    let items = c.self.inside.stack.items in
    let kept : c.saturating_sub-kept.result ≡ length items - c.args.count = omega arith in
    c.in_ok-split_off.ensures.tail
    ∙ taken-values items c.args.count c.saturating_sub-kept.result kept
    ∙ ap (λ (s : NumberedState). passed_numbers s c.args.count) c.self.view_is

pub returns-clause-rest : goal.returns-clause-rest
returns-clause-rest c =
    let items = c.self.inside.stack.items in
    let kept : c.saturating_sub-kept.result ≡ length items - c.args.count = omega arith in
    ap (stack_of c.self.inside.vars.items)
    (ap reverse c.in_ok-split_off.ensures.items ∙ taken-rest items c.args.count c.saturating_sub-kept.result kept)
    ∙ ap (λ (s : NumberedState). popped_numbers s c.args.count) c.self.view_is
