use Rattle.witness_build_apart_laws.proofs.Walked.{walked-both, walked-first, walked-second}
use Rattle.witness_build_apart_laws.proofs.laws.legs_gone_alone_tell_marks.Goals as goal

pub returns-clause-first : goal.returns-clause-first
returns-clause-first c = walked-first

pub returns-clause-second : goal.returns-clause-second
returns-clause-second c = walked-second

pub returns-clause-both : goal.returns-clause-both
returns-clause-both c = walked-both
