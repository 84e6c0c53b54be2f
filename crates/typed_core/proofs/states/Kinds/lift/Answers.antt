use Rattle.std.proofs.Common.{◌≡◌, ◌-◌, ℕ, length, reverse, take, drop, ap, sym, ◌∙◌, arith}
use Rattle.std.specs.Global.{Vec}
use Rattle.typed_core.specs.declared.kinds.TypedKind.{TypedKind}
use Rattle.typed_core.specs.declared.states.KindState.{KindState}
use Rattle.owner_domain.proofs.Stacks.{taken-rest, take-reverse}
use Rattle.typed_core.proofs.MetKinds.{stack_of}
use Rattle.typed_core.proofs.states.Kinds.lift.Goals as goal

pub returns-clause-under : goal.returns-clause-under
returns-clause-under c =
    let items = c.self.inside.stack.items in
    let below : c.saturating_sub-below.result ≡ length items - c.args.height = omega arith in
    ap (λ (v : Vec TypedKind). reverse v.items) c.replace.ensures.value
    ∙ ap reverse c.in_ok-top.ensures.items
    ∙ taken-rest items c.args.height c.saturating_sub-below.result below
    ∙ ap (λ (s : KindState). drop c.args.height s.stack) c.self.view_is

pub returns-clause-rest : goal.returns-clause-rest
returns-clause-rest c =
    let items = c.self.inside.stack.items in
    let below : c.saturating_sub-below.result ≡ length items - c.args.height = omega arith in
    ap (stack_of c.self.inside.vars.items)
    (ap (λ (v : Vec TypedKind). reverse v.items) c.replace.ensures.after
    ∙ ap reverse c.in_ok-top.ensures.tail
    ∙ ap (λ (k : ℕ). reverse (drop k items)) below
    ∙ sym (take-reverse items c.args.height))
    ∙ ap (λ (s : KindState). stack_of s.vars (take c.args.height s.stack)) c.self.view_is
