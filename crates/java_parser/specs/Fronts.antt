-- No public contract rests on this: tokens at the end of others.
use Rattle.std.specs.Prelude.{◌≡◌, List, ◌++◌}
use Rattle.java_lexer.specs.declared.token.Token.{Token}
use Rattle.java_tree.specs.KeptPlaces.{Places, kept}

-- the tokens end with these
abbrev pub EndsWith : List Token → List Token → Type 0
EndsWith ts rest = (front : List Token) × (ts ≡ front ++ rest)

-- what stands before these at the end keeps these places
pub record IsFront (places : Places) (ts rest : List Token) : Type 0 where
  pub front : List Token
  pub parts : ts ≡ front ++ rest
  pub placed : places ≡ kept front
