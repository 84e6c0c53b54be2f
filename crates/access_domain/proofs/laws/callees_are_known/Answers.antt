use Rattle.std.proofs.Common.{None}
use Rattle.core_code.specs.Calls.{rank_of}
use Rattle.core_code.proofs.ByRank.{known_below-lower, known_below-higher}
use Rattle.access_domain.specs.Summaries.{known_at}
use Rattle.access_domain.proofs.laws.callees_are_known.Goals as goal

pub returns-clause-smaller : goal.returns-clause-smaller
returns-clause-smaller c = λ core m n. known_below-lower None (known_at core) core (rank_of core m) n

pub returns-clause-other : goal.returns-clause-other
returns-clause-other c = λ core m n. known_below-higher None (known_at core) core (rank_of core m) n
