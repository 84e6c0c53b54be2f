-- A contract of a public call rests on this: trees that tokens spell, with their places.
use Rattle.std.specs.Prelude.{◌≡◌, List, [], map}
use Rattle.java_lexer.specs.declared.token.Token.{Token}
use Rattle.java_tree.specs.declared.words.Spelled.{Spelled}
use Rattle.java_tree.specs.KeptPlaces.{Places, Marks, AreAt, kept}
use Rattle.java_parser_types.specs.Tokens.{spelled}

-- the tokens spell a formed tree, and it keeps these places, which are theirs
pub record IsPlaced {A : Type 0} (Formed : A → Type 0) (onto : A → List Spelled → List Spelled) (tokens : List Token)
    (tree : A) (places : Places) : Type 0 where
  pub formed : Formed tree
  pub spells : onto tree [] ≡ map spelled tokens
  pub stands : places ≡ kept tokens

-- the same of a tree that does not keep all of their places
pub record IsMarked {A : Type 0} (Formed : A → Type 0) (onto : A → List Spelled → List Spelled) (tokens : List Token)
    (tree : A) (marks : Marks) : Type 0 where
  pub formed : Formed tree
  pub spells : onto tree [] ≡ map spelled tokens
  pub stands : AreAt marks (kept tokens)
