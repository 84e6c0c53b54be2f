use Rattle.call_subst.proofs.Sizes.{fewer_records, fewer_paths}
use Rattle.call_subst.proofs.laws.substitution_adds_nothing.Goals as goal

pub returns-clause-records : goal.returns-clause-records
returns-clause-records c = fewer_records

pub returns-clause-wobbly : goal.returns-clause-wobbly
returns-clause-wobbly c = fewer_paths
