-- A contract of a public call rests on this: methods that tokens spell, with their places.
use Rattle.std.specs.Prelude.{◌≡◌, List, map}
use Rattle.java_lexer.specs.declared.token.Token.{Token}
use Rattle.java_tree.specs.declared.methods.MethodTree.{MethodTree}
use Rattle.java_tree.specs.Spelling.{spelling}
use Rattle.java_tree.specs.FormedMethods.{FormedMethod}
use Rattle.java_tree.specs.View.{method_of}
use Rattle.java_tree.specs.KeptPlaces.{kept}
use Rattle.java_tree.specs.KeptPlaces.{AreAt}
use Rattle.java_tree.specs.MethodPlaces.{method_marks}
use Rattle.java_parser_types.specs.Tokens.{spelled}

-- the tokens spell the method, which is formed, and it keeps places that are theirs
pub record IsPlacedMethod (tokens : List Token) (tree : MethodTree) : Type 0 where
  pub formed : FormedMethod (method_of tree)
  pub spells : spelling (method_of tree) ≡ map spelled tokens
  pub stands : AreAt (method_marks tree) (kept tokens)
