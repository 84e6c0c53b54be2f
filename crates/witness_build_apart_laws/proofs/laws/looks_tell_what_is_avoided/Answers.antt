use Rattle.witness_build_apart_laws.proofs.Beginnings.{looks-avoid}
use Rattle.witness_build_apart_laws.proofs.laws.looks_tell_what_is_avoided.Goals as goal

pub returns : goal.returns
returns c = looks-avoid
