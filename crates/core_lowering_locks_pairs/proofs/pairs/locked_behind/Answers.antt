use Rattle.core_lowering_locks_pairs.proofs.Cuts.{cut-locked}
use Rattle.core_lowering_locks_pairs.proofs.pairs.locked_behind.Goals as goal

pub returns : goal.returns
returns c =
    cut-locked c.args.first.now c.in_ok-next.next.now c.in_ok-next.rest.now c.args.behind.now c.in_ok-locked.locked
    c.in_ok-next.ensures.cases.0 c.in_ok-locked.ensures
