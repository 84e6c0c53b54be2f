use Rattle.std.proofs.Common.{◌≡◌, ◌-◌, length, reverse, ap, subst, ◌∙◌, arith}
use Rattle.std.specs.Prelude.{OnOk}
use Rattle.owner_domain.specs.declared.numbered.NumberedState.{NumberedState}
use Rattle.owner_domain.specs.Slots.{popped_numbers, pushed_number}
use Rattle.owner_domain.proofs.Stacks.{taken-rest, stack_of}
use Rattle.owner_domain.proofs.flow_state.FlowState.replace.Goals as goal

pub returns : goal.returns
returns c =
    let items = c.self.inside.stack.items in
    let kept : c.saturating_sub-kept.result ≡ length items - c.args.count = omega arith in
    subst (λ (s : NumberedState). OnOk c.push.result (c.push.new.self ≡ pushed_number s c.args.value))
    (ap (stack_of c.self.inside.vars.items)
    (ap reverse c.truncate.ensures.items ∙ taken-rest items c.args.count c.saturating_sub-kept.result kept)
    ∙ ap (λ (s : NumberedState). popped_numbers s c.args.count) c.self.view_is) c.push.ensures
