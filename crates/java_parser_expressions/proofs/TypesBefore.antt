-- Whether types stand before a name.
use Rattle.std.proofs.Common.{◌≡◌, Bool, true, false, List, [], ◌∷◌, refl}
use Rattle.std.specs.Prelude.{IsTrue, is_some, ◌↔◌}
use Rattle.java_tree.specs.declared.types.TypeTree.{TypeTree}
use Rattle.java_tree.specs.View.{types_of}

pub some_types : (types : List TypeTree) (glued none : Bool) → (IsTrue none ↔ (types ≡ [])) → none ≡ false
    → is_some (types_of types glued) ≡ true
some_types [] glued none tells h = let empty : IsTrue none = tells.1 refl in absurd cc
some_types (t ∷ types) glued none tells h = refl
