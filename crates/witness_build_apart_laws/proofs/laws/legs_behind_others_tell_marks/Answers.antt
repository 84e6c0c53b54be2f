use Rattle.witness_build_apart_laws.proofs.Behind.{behind-blocked, behind-confirmed}
use Rattle.witness_build_apart_laws.proofs.laws.legs_behind_others_tell_marks.Goals as goal

pub returns-clause-blocked : goal.returns-clause-blocked
returns-clause-blocked c = behind-blocked

pub returns-clause-confirmed : goal.returns-clause-confirmed
returns-clause-confirmed c = behind-confirmed
