-- A part of code that is put behind others, as a tree.
use Rattle.std.proofs.Common.{◌≡◌, List, [], ◌∷◌, ◌++◌, map, ap, ◌∙◌}
use Rattle.std.proofs.lemmas.List.{map-append}
use Rattle.core_code.specs.declared.code.Code.{Code}
use Rattle.core_code.specs.Tree.{Tree, tree_of}

pub pushed : (old new kept : List Code) (part : Code) (t u : Tree) → new ≡ old ++ part ∷ [] → old ≡ kept →
    tree_of part ≡ t → t ≡ u → map tree_of new ≡ map tree_of kept ++ u ∷ []
pushed old new kept part t u put same shape is =
    ap (map tree_of) put ∙ map-append tree_of old (part ∷ [])
    ∙ ap (λ xs. map tree_of xs ++ tree_of part ∷ []) same ∙ ap (λ x. map tree_of kept ++ x ∷ []) (shape ∙ is)
