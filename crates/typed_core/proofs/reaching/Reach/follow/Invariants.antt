use Rattle.core_code.specs.CalleeRows.{rows_in}
use Rattle.typed_core.proofs.Coming.{IsFollowing}
use Rattle.typed_core.proofs.reaching.Reach.follow.Given as goal

abbrev pub invariant-loop-followed : goal.invariant-loop-followed
invariant-loop-followed l = IsFollowing (rows_in l.rows) l.followed l.fn.self l.self
