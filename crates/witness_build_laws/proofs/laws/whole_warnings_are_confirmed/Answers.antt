use Rattle.witness_build_laws.proofs.WholeWarnings.{whole_confirmed}
use Rattle.witness_build_laws.proofs.laws.whole_warnings_are_confirmed.Goals as goal

pub returns : goal.returns
returns c = whole_confirmed
