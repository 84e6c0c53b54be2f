use Rattle.std.proofs.Common.{◌-◌, sym, ap, ◌∙◌, drop, take, reverse}
use Rattle.core_semantics.proofs.Stacks.{drop_reversed}
use Rattle.core_semantics.proofs.stack.Stack.cut.Goals as goal

pub returns : goal.returns
returns g c =
    ap reverse c.truncate.ensures.items
    ∙ ap (λ m. reverse (take m c.self.inside.items.items))
    (c.saturating_sub.ensures ∙ ap (λ m. m - c.args.count) (c.len.ensures ∙ c.self.inside.items.ok.0))
    ∙ sym (drop_reversed c.args.count c.self.inside.items.items)
    ∙ ap (drop c.args.count) c.self.view_is
