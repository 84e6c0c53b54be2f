use Rattle.witness_build_apart_laws.proofs.Storing.{legs-store}
use Rattle.witness_build_apart_laws.proofs.laws.legs_store_little.Goals as goal

pub returns : goal.returns
returns c = legs-store
