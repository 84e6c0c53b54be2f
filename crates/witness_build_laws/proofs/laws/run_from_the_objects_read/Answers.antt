use Rattle.witness_build_laws.proofs.Legs.{run-from-objects}
use Rattle.witness_build_laws.proofs.laws.run_from_the_objects_read.Goals as goal

pub returns : goal.returns
returns c = run-from-objects
