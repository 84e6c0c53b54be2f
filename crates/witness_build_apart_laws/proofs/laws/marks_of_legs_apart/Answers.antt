use Rattle.witness_build_apart_laws.proofs.Marks.{apart-blocked, apart-confirmed}
use Rattle.witness_build_apart_laws.proofs.laws.marks_of_legs_apart.Goals as goal

pub returns-clause-confirmed : goal.returns-clause-confirmed
returns-clause-confirmed c = apart-confirmed

pub returns-clause-blocked : goal.returns-clause-blocked
returns-clause-blocked c = apart-blocked
