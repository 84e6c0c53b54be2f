use Rattle.witness_build_laws.proofs.ConfirmedWarnings.{confirmed-warnings-race}
use Rattle.witness_build_laws.proofs.laws.confirmed_warnings_race.Goals as goal

pub returns : goal.returns
returns c = confirmed-warnings-race
