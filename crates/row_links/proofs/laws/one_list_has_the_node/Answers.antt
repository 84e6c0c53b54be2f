use Rattle.row_links.proofs.Lists.{in-one, in-some}
use Rattle.row_links.proofs.laws.one_list_has_the_node.Goals as goal

pub returns-clause-one : goal.returns-clause-one
returns-clause-one c = λ x l m lists. in-one lists x l m

pub returns-clause-some : goal.returns-clause-some
returns-clause-some c = λ x lists. in-some lists x
