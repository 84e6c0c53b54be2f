use Rattle.std.proofs.Common.{rules}
use Rattle.call_subst.proofs.substitution.record_there.Goals as goal

pub returns-after-access-2 : goal.returns-after-access-2
returns-after-access-2 c = search rules
