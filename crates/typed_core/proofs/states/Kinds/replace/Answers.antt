use Rattle.std.proofs.Common.{◌≡◌, ◌-◌, length, reverse, ap, subst, ◌∙◌, arith}
use Rattle.std.specs.Prelude.{OnOk}
use Rattle.typed_core.specs.declared.states.KindState.{KindState}
use Rattle.typed_core.specs.States.{popped, pushed}
use Rattle.owner_domain.proofs.Stacks.{taken-rest}
use Rattle.typed_core.proofs.MetKinds.{stack_of}
use Rattle.typed_core.proofs.states.Kinds.replace.Goals as goal

pub returns : goal.returns
returns c =
    let items = c.self.inside.stack.items in
    let kept : c.saturating_sub-kept.result ≡ length items - c.args.count = omega arith in
    subst (λ (s : KindState). OnOk c.push.result (c.push.new.self ≡ pushed s c.args.kind))
    (ap (stack_of c.self.inside.vars.items)
    (ap reverse c.truncate.ensures.items ∙ taken-rest items c.args.count c.saturating_sub-kept.result kept)
    ∙ ap (λ (s : KindState). popped s c.args.count) c.self.view_is) c.push.ensures
