-- One turn of a loop that gathers, and its end.
use Rattle.std.proofs.Common.{◌≡◌, List, [], ◌∷◌, ◌++◌, refl, ap}
use Rattle.std.specs.Borrow.{Bor}
use Rattle.java_tree.specs.declared.unit.ClassTree.{ClassTree}
use Rattle.java_resolver.specs.Indexes.{trees_behind}

pub behind-push : (trees : List (Bor ClassTree)) (tree : Bor ClassTree) →
    trees_behind (trees ++ tree ∷ []) ≡ trees_behind trees ++ tree.now ∷ []
behind-push [] tree = refl
behind-push (t ∷ ts) tree = ap (λ xs. t.now ∷ xs) (behind-push ts tree)
