use Rattle.std.proofs.Common.{subst}
use Rattle.core_ways.specs.Answers.{IsWay}
use Rattle.core_ways_sites.proofs.table.both.Goals as goal

pub returns-in-Ok : goal.returns-in-Ok
returns-in-Ok c = λ a b first second.
    c.behind_taken.ensures a b (subst (IsWay a) c.in-Ok.is (c.taken.ensures a first)) (c.taken-in-Ok.ensures b second)
