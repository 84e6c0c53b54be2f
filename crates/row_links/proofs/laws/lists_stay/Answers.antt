use Rattle.std.proofs.Common.{[], ◌++◌, ◌∷◌, map, slice_set, ◌∙◌}
use Rattle.std.proofs.lemmas.List.{length-set, length-map}
use Rattle.row_links.specs.Lists.{list_at, without}
use Rattle.row_links.proofs.Starting.{length-all_in}
use Rattle.row_links.proofs.laws.lists_stay.Goals as goal

pub returns-clause-start : goal.returns-clause-start
returns-clause-start c = length-all_in

pub returns-clause-moved : goal.returns-clause-moved
returns-clause-moved c = λ x l lists.
    length-set (map (without x) lists) l (list_at (map (without x) lists) l ++ x ∷ []) ∙ length-map lists (without x)

pub returns-clause-spliced : goal.returns-clause-spliced
returns-clause-spliced c = λ from to lists.
    length-set (slice_set lists to (list_at lists to ++ list_at lists from)) from []
    ∙ length-set lists to (list_at lists to ++ list_at lists from)
