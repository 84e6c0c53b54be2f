use Rattle.racer_sources_totality.proofs.ToldCycles.{cycles-told, recursion-told}
use Rattle.racer_sources_totality.proofs.laws.recursion_is_total.Goals as goal

pub returns-clause-rows : goal.returns-clause-rows
returns-clause-rows c = cycles-told

pub returns-clause-programs : goal.returns-clause-programs
returns-clause-programs c = recursion-told
