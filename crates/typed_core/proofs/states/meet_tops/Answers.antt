use Rattle.std.proofs.Common.{◌≡◌, not, length, reverse, ap, ◌∙◌, arith}
use Rattle.typed_core.specs.States.{joined_kinds}
use Rattle.typed_core.proofs.MetKinds.{joined-reverse, same-reverse}
use Rattle.typed_core.proofs.states.meet_tops.Goals as goal

pub returns-then-len-clause-kinds : goal.returns-then-len-clause-kinds
returns-then-len-clause-kinds c =
    let mine = c.args.mine.now.items in
    let others = c.args.others.items in
    let long : length mine ≡ length others = omega arith in
    ap reverse (c.meet_kinds.ensures.kinds ∙ ap (joined_kinds mine) c.as_slice.ensures.value)
    ∙ joined-reverse mine others long

pub returns-then-len-clause-changed : goal.returns-then-len-clause-changed
returns-then-len-clause-changed c =
    c.meet_kinds.ensures.changed ∙ ap not (same-reverse c.meet_kinds.new.mine.items c.args.mine.now.items)
