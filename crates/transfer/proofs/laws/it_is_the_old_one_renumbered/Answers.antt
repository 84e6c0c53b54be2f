use Rattle.core_code.specs.Program.{core}
use Rattle.transfer.proofs.RenumberedOutcomes.{outcome-given, outcome-kept}
use Rattle.transfer.proofs.laws.it_is_the_old_one_renumbered.Goals as goal

pub returns-clause-renumbered : goal.returns-clause-renumbered
returns-clause-renumbered c = λ p q ties a b are. outcome-given p q ties are a b

pub returns-clause-outcome : goal.returns-clause-outcome
returns-clause-outcome c = λ p q ties m n a are before is.
    outcome-kept (core p) (core q) ties are m n a
    (c.what_is_as_before_has_its_outcome.ensures p q m n before) is
