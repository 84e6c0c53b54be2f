use Rattle.std.proofs.Common.{◌≡◌, ◌+◌, ◌-◌, ap, ◌∙◌, ◌∷◌, arith, drop, reverse, length, set}
use Rattle.std.proofs.lemmas.List.{length-reverse}
use Rattle.core_semantics.proofs.Stacks.{two_reversed}
use Rattle.core_semantics.proofs.stack.Stack.replace_by_two.Goals as goal

pub returns-clause-ok : goal.returns-clause-ok
returns-clause-ok g c =
    let xs = c.self.inside.items.items in
    let last = c.len-last.result - 1 in
    let counted = c.len-last.ensures ∙ c.self.inside.items.ok.0 in
    let view = c.self.view_is in
    let is_last : last + 1 ≡ length xs = omega (arith, counted, c.requires, length-reverse xs, ap length view) in
    ap (λ ys. reverse (set ys last c.args.second)) c.in-Ok.ensures.items
    ∙ two_reversed last xs c.args.first c.args.second is_last
    ∙ ap (λ ys. c.args.first ∷ c.args.second ∷ drop 1 ys) view

pub returns-in_default-clause-err : goal.returns-in_default-clause-err
returns-in_default-clause-err g c = ap reverse c.in_default.ensures.items ∙ c.self.view_is
