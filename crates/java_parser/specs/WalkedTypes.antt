-- No public contract rests on this: the types among the declarations that a walk over items cuts.
use Rattle.std.specs.Prelude.{◌≡◌, Bool, true, false, List, [], ◌∷◌, ◌++◌, Result, Ok, Err, map, filter, codes}
use Rattle.racer_base.specs.declared.ids.Place.{Place}
use Rattle.java_lexer.specs.declared.token.Token.{Token}
use Rattle.java_parser_grammar.specs.Tokens.{begins_sign, first_place}
use Rattle.java_parser_grammar.specs.Cuts.{joined, ends}
use Rattle.java_parser_grammar.specs.Pieces.{Item}
use Rattle.java_parser_grammar.specs.DeclarationWalk.{Seen, declarations}

-- the tokens of each declaration that ends with braces
abbrev pub typed : Result (List (List Item)) (List Item) → Result (List (List Token)) (List Item)
typed (Ok ds) = Ok (map joined (filter (ends (begins_sign (codes "{"))) ds))
typed (Err rest) = Err rest

-- the tokens of each type, or the items from the first on that does not fit
abbrev pub types_from : Seen → List Item → Result (List (List Token)) (List Item)
types_from seen is = typed (declarations seen is)

abbrev pub with_types : List (List Token) → Result (List (List Token)) (List Item) → Result (List (List Token)) (List
    Item)
with_types front (Ok ts) = Ok (front ++ ts)
with_types front (Err rest) = Err rest

abbrev pub IsMisfitAt : (end place : Place) → Result (List (List Token)) (List Item) → Type 0
IsMisfitAt end place (Ok ts) = ⊥
IsMisfitAt end place (Err rest) = first_place end (joined rest) ≡ place

abbrev pub type_if : Bool → List Token → List (List Token)
type_if true ts = ts ∷ []
type_if false ts = []
