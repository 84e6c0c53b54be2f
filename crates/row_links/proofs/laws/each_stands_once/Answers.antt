use Rattle.row_links.proofs.Lists.{each-moved, count-moved, each-spliced, count-spliced}
use Rattle.row_links.proofs.Starting.{each-all_in, count-all_in}
use Rattle.row_links.proofs.laws.each_stands_once.Goals as goal

pub returns-clause-start : goal.returns-clause-start
returns-clause-start c = each-all_in

pub returns-clause-start_count : goal.returns-clause-start_count
returns-clause-start_count c = count-all_in

pub returns-clause-moved : goal.returns-clause-moved
returns-clause-moved c = each-moved

pub returns-clause-moved_count : goal.returns-clause-moved_count
returns-clause-moved_count c = λ x l lists each there low. count-moved x l lists low (each.once x there)

pub returns-clause-spliced : goal.returns-clause-spliced
returns-clause-spliced c = each-spliced

pub returns-clause-spliced_count : goal.returns-clause-spliced_count
returns-clause-spliced_count c = count-spliced
