use Rattle.std.proofs.Common.{rules}
use Rattle.race_pairs.proofs.pairing.is_entry_of.Goals as goal

pub returns-then-method : goal.returns-then-method
returns-then-method c = search rules
