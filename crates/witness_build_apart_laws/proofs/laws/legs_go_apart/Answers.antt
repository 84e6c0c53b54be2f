use Rattle.witness_build_apart_laws.proofs.Legs.{legs-end-alike, legs-read-alike}
use Rattle.witness_build_apart_laws.proofs.laws.legs_go_apart.Goals as goal

pub returns-clause-ends : goal.returns-clause-ends
returns-clause-ends c = legs-end-alike

pub returns-clause-reads : goal.returns-clause-reads
returns-clause-reads c = legs-read-alike
