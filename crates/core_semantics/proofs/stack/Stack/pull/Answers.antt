use Rattle.std.proofs.Common.{◌≡◌, ◌+◌, ◌-◌, ◌++◌, ap, ◌∙◌, arith, drop, take, reverse, length}
use Rattle.core_semantics.proofs.Stacks.{pulled_reversed}
use Rattle.core_semantics.proofs.stack.Stack.pull.Goals as goal

pub returns-then-len-gt1 : goal.returns-then-len-gt1
returns-then-len-gt1 g c =
    let xs = c.self.inside.items.items in
    let first = c.len.ensures in
    let again = c.len-then-len-gt1.ensures in
    let counted = c.self.inside.items.ok.0 in
    let more = c.if-len-gt1.true in
    let k = c.len-then-len-gt1.result - 2 in
    let under : k + 2 ≡ length xs = omega (arith, first, again, counted, more) in
    ap reverse c.remove.ensures.items
    ∙ pulled_reversed k xs under
    ∙ ap (λ ys. take 1 ys ++ drop 2 ys) c.self.view_is
