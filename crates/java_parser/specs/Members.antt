-- No public contract rests on this: the first member of a class, and what stands behind it.
use Rattle.std.specs.Prelude.{Bool, false, ◌||◌, List, [], ◌∷◌, map, codes, if◌then◌else◌}
use Rattle.java_lexer.specs.declared.token.Token.{Token}
use Rattle.java_parser_grammar.specs.Tokens.{begins_sign}
use Rattle.java_parser_grammar.specs.Cuts.{joined}
use Rattle.java_parser_grammar.specs.Pieces.{Item, items_of, inside}
use Rattle.java_parser_grammar.specs.Members.{ends_member, cut_members}

-- the items of the first member, where an `=` stood before it or none
abbrev pub member_front : (equals : Bool) → List Item → List Item
member_front equals [] = []
member_front equals (i ∷ is) =
    if ends_member equals i then i ∷ [] else i ∷ member_front (equals || begins_sign (codes "=") i) is

-- those behind them
abbrev pub behind_member : (equals : Bool) → List Item → List Item
behind_member equals [] = []
behind_member equals (i ∷ is) =
    if ends_member equals i then is else behind_member (equals || begins_sign (codes "=") i) is

-- the tokens of each member and of each lone `;`
abbrev pub cut_of : List Token → List (List Token)
cut_of ts = map joined (cut_members false (items_of ts))

-- what stands in the last item, or in this one where there is none
abbrev pub last_inside : Item → List Item → List Token
last_inside last [] = inside last
last_inside last (i ∷ is) = last_inside i is
