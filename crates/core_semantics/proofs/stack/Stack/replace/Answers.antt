use Rattle.std.proofs.Common.{◌≡◌, ◌-◌, ◌<◌, sym, ap, ◌∙◌, ◌∷◌, arith, drop, reverse, length}
use Rattle.core_semantics.proofs.Stacks.{put_reversed, pushed_reversed}
use Rattle.core_semantics.proofs.stack.Stack.replace.Goals as goal

pub returns-else-kept-len-clause-ok : goal.returns-else-kept-len-clause-ok
returns-else-kept-len-clause-ok g c =
    let xs = c.self.inside.items.items in
    let kept = c.saturating_sub-kept.result in
    let counted = c.len.ensures ∙ c.self.inside.items.ok.0 in
    let is_left : kept ≡ length xs - c.args.count =
    c.saturating_sub-kept.ensures ∙ ap (λ m. m - c.args.count) counted in
    let all = c.len-2.ensures ∙ c.self.inside.items.ok.0 in
    let other = c.if-kept-len.false in
    let within : kept < length xs = omega (arith, is_left, all, other) in
    ap reverse c.truncate.ensures.items
    ∙ put_reversed c.args.count kept xs c.args.item is_left within
    ∙ ap (λ ys. c.args.item ∷ drop c.args.count ys) c.self.view_is

pub returns-in-Ok-clause-ok : goal.returns-in-Ok-clause-ok
returns-in-Ok-clause-ok g c =
    let xs = c.self.inside.items.items in
    let counted = c.len.ensures ∙ c.self.inside.items.ok.0 in
    let none : length xs ≡ length xs - c.args.count =
    sym (c.len-2.ensures ∙ c.self.inside.items.ok.0)
    ∙ sym c.if-kept-len.true
    ∙ c.saturating_sub-kept.ensures
    ∙ ap (λ m. m - c.args.count) counted in
    ap reverse c.in-Ok.ensures.items
    ∙ pushed_reversed c.args.count xs c.args.item none
    ∙ ap (λ ys. c.args.item ∷ drop c.args.count ys) c.self.view_is

pub returns-in_default-clause-err : goal.returns-in_default-clause-err
returns-in_default-clause-err g c = ap reverse c.in_default.ensures.items ∙ c.self.view_is
