use Rattle.access_paths.specs.Table.{interned}
use Rattle.access_paths.proofs.Numbers.{equal_numbers, goes_on-at, interned-goes_on}
use Rattle.access_paths.proofs.laws.numbers_stand_for_paths.Goals as goal

pub returns-clause-same : goal.returns-clause-same
returns-clause-same c = equal_numbers

pub returns-clause-kept : goal.returns-clause-kept
returns-clause-kept c = λ table p i low. goes_on-at table (interned table p) i (interned-goes_on table p) low
