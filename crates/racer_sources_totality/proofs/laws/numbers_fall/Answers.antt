use Rattle.racer_sources_totality.proofs.FallingNumbers.{numbers-fall}
use Rattle.racer_sources_totality.proofs.laws.numbers_fall.Goals as goal

pub returns : goal.returns
returns c = numbers-fall
