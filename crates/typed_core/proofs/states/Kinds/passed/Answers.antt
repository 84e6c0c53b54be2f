use Rattle.std.proofs.Common.{◌≡◌, ◌-◌, length, drop, ap, ◌∙◌, arith}
use Rattle.std.proofs.lemmas.List.{take_rest}
use Rattle.owner_domain.proofs.Stacks.{taken-values}
use Rattle.typed_core.specs.declared.states.KindState.{KindState}
use Rattle.typed_core.specs.States.{passed}
use Rattle.typed_core.proofs.states.Kinds.passed.Goals as goal

pub returns : goal.returns
returns c =
    let items = c.self.inside.stack.items in
    let kept : c.saturating_sub-kept.result ≡ length items - c.args.count = omega arith in
    take_rest c.as_slice.result.now c.saturating_sub-kept.result
    ∙ ap (drop c.saturating_sub-kept.result) c.as_slice.ensures.value
    ∙ taken-values items c.args.count c.saturating_sub-kept.result kept
    ∙ ap (λ (s : KindState). passed s c.args.count) c.self.view_is
