use Rattle.std.proofs.Common.{◌≡◌, ℕ, ◌++◌, List, drop, sym, ap, ◌∙◌, arith}
use Rattle.std.proofs.lemmas.List.{append-nil}
use Rattle.owner_domain.specs.Numbered.{lost_numbers}
use Rattle.owner_domain.proofs.NumbersJoined.{shorter, lost-rest}
use Rattle.owner_domain.proofs.meeting.lose_values.Goals as goal

pub returns : goal.returns
returns c =
    let mine = c.args.mine.now in
    let others = c.args.others.now in
    let end : c.loop-slot.slot ≡ shorter mine others = omega arith in
    sym (append-nil c.loop-slot.lost.items)
    ∙ ap (λ (rest : List ℕ). c.loop-slot.lost.items ++ rest)
    (sym (ap (λ (n : ℕ). lost_numbers (drop n mine) (drop n others)) end ∙ lost-rest mine others))
    ∙ c.loop-slot.invariant
