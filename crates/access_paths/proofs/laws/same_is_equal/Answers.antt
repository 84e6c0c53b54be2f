use Rattle.access_paths.specs.Same.{equal_of_same, same_of_equal, tied, path_cmp-total, path_cmp-IsAntisymmetric}
use Rattle.access_paths.proofs.laws.same_is_equal.Goals as goal

pub returns-clause-equal : goal.returns-clause-equal
returns-clause-equal c = λ p q. (equal_of_same p q, same_of_equal p q)

pub returns-clause-tied : goal.returns-clause-tied
returns-clause-tied c = tied

pub returns-clause-total : goal.returns-clause-total
returns-clause-total c = path_cmp-total

pub returns-clause-ties : goal.returns-clause-ties
returns-clause-ties c = path_cmp-IsAntisymmetric
