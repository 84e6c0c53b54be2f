use Rattle.std.proofs.Common.{◌≡◌, ℕ, ◌++◌, List, drop, reverse, sym, ap, ◌∙◌, arith}
use Rattle.std.proofs.lemmas.List.{append-nil, length-reverse}
use Rattle.owner_domain.specs.Numbered.{lost_numbers}
use Rattle.owner_domain.proofs.NumbersJoined.{shorter, lost-rest}
use Rattle.owner_domain.proofs.MetValues.{top-lost}
use Rattle.owner_domain.proofs.meeting.lose_tops.Goals as goal

pub loop-slot-preserved : goal.loop-slot-preserved
loop-slot-preserved c =
    top-lost c.args.mine.now c.args.others.now c.loop-slot.slot _ _ (omega arith) (omega arith)
    c.loop-slot.lost.items c.lose_both.new.lost.items _ c.in_ok-lose_both.ensures.lost c.loop-slot.invariant

pub returns : goal.returns
returns c =
    let mine = reverse c.args.mine.now in
    let others = reverse c.args.others.now in
    let end : c.loop-slot.slot ≡ shorter mine others =
    omega (arith, length-reverse c.args.mine.now, length-reverse c.args.others.now) in
    sym (append-nil c.loop-slot.lost.items)
    ∙ ap (λ (rest : List ℕ). c.loop-slot.lost.items ++ rest)
    (sym (ap (λ (n : ℕ). lost_numbers (drop n mine) (drop n others)) end ∙ lost-rest mine others))
    ∙ c.loop-slot.invariant
