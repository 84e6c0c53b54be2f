-- A contract of a public call rests on this: the types of a file, or why there are none.
use Rattle.std.specs.Prelude.{◌≡◌, List}
use Rattle.racer_base.specs.declared.ids.Place.{Place}
use Rattle.java_lexer.specs.declared.token.Token.{Token}
use Rattle.java_tree.specs.declared.unit.ParseFault.{ParseFault}
use Rattle.java_tree.specs.declared.unit.ParseFault.TheVariants.{NotAUnit, Memory}
use Rattle.java_parser_grammar.specs.Tokens.{first_place}
use Rattle.java_parser_grammar.specs.Cuts.{joined}
use Rattle.java_parser_grammar.specs.Pieces.{Item}
use Rattle.java_parser_grammar.specs.Declarations.{types_among, AreDeclarations, IsMisfit}

-- the tokens of each type of a file with these items
pub record AreTypes (is : List Item) (types : List (List Token)) : Type 0 where
  pub all : List (List Item)
  pub fit : AreDeclarations is all
  pub among : types_among all ≡ types

-- why these are the items of no file; nothing is said where memory was refused
abbrev pub IsNoUnit : (end : Place) → ParseFault → List Item → Type 0
IsNoUnit end (NotAUnit place) is = (rest : List Item) × IsMisfit is rest × (first_place end (joined rest) ≡ place)
IsNoUnit end Memory is = Unit {0}
IsNoUnit end _ is = ⊥
