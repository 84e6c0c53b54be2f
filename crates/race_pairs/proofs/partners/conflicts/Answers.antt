use Rattle.std.proofs.Common.{rules}
use Rattle.race_pairs.proofs.partners.conflicts.Goals as goal

pub returns-after-a-2 : goal.returns-after-a-2
returns-after-a-2 c = search rules

pub returns-else-not-b : goal.returns-else-not-b
returns-else-not-b c = search rules
