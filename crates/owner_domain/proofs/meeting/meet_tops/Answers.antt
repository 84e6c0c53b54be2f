use Rattle.std.proofs.Common.{◌≡◌, not, length, reverse, ap, ◌∙◌, arith}
use Rattle.owner_domain.specs.Numbered.{joined_numbers}
use Rattle.owner_domain.proofs.MetValues.{joined-reverse, same-reverse}
use Rattle.owner_domain.proofs.meeting.meet_tops.Goals as goal

pub returns-then-len-clause-values : goal.returns-then-len-clause-values
returns-then-len-clause-values c =
    let mine = c.args.mine.now.items in
    let others = c.args.others.items in
    let long : length mine ≡ length others = omega arith in
    ap reverse (c.meet_values.ensures.values ∙ ap (joined_numbers mine) c.as_slice.ensures.value)
    ∙ joined-reverse mine others long

pub returns-then-len-clause-changed : goal.returns-then-len-clause-changed
returns-then-len-clause-changed c =
    c.meet_values.ensures.changed ∙ ap not (same-reverse c.meet_values.new.mine.items c.args.mine.now.items)
