use Rattle.owner_domain.specs.SameValue.{equal_of_same_value, same_of_equal_value}
use Rattle.owner_domain.proofs.laws.same_is_equal.Goals as goal

pub returns : goal.returns
returns c = λ a b. (equal_of_same_value a b, same_of_equal_value a b)
