use Rattle.typed_core.proofs.Ends.{check-monotone}
use Rattle.typed_core.proofs.laws.check_is_monotone.Goals as goal

pub returns : goal.returns
returns c = check-monotone
