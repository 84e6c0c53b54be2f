use Rattle.racer_sources.proofs.OneSource.{one_source}
use Rattle.racer_sources.proofs.laws.one_source.Goals as goal

pub returns : goal.returns
returns c = one_source c.one_reading.ensures
