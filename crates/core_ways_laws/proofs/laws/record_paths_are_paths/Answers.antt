use Rattle.core_ways_laws.proofs.RecordShapes.{one-behind-some}
use Rattle.core_ways_laws.proofs.ShortPaths.{short-path}
use Rattle.core_ways_laws.proofs.laws.record_paths_are_paths.Goals as goal

pub returns : goal.returns
returns c core m i r at = record { limit = short-path core m i r at; some = one-behind-some core m i r at }
