use Rattle.core_lowering_rules.proofs.ProgramRanks.{same-calls, ranks-there}
use Rattle.core_lowering_rules.proofs.laws.programs.ranks_of_programs.Goals as goal

pub returns-clause-same_calls : goal.returns-clause-same_calls
returns-clause-same_calls c containers files units is_recursive = same-calls containers files units is_recursive

pub returns-clause-ranks : goal.returns-clause-ranks
returns-clause-ranks c containers files units flags tell = ranks-there containers files units flags tell
