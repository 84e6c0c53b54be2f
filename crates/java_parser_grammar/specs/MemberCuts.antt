-- A contract of a public call rests on this: what a cut of a class body into members is (JLS 8.1.6).
use Rattle.std.specs.Prelude.{Bool, false, not, ◌&&◌, ◌||◌, ◌⊎◌, List, [], ◌∷◌, IsTrue, codes}
use Rattle.java_tree.specs.FormedModifiers.{has_some}
use Rattle.java_parser_grammar.specs.Tokens.{begins_sign}
use Rattle.java_parser_grammar.specs.Pieces.{Item}
use Rattle.java_parser_grammar.specs.Members.{ends_member, is_endless}

-- whether the last of the items ends a member, and none before it
abbrev pub is_ended : (equals : Bool) → List Item → Bool
is_ended equals [] = false
is_ended equals (i ∷ []) = ends_member equals i
is_ended equals (i ∷ j ∷ is) = not (ends_member equals i) && is_ended (equals || begins_sign (codes "=") i) (j ∷ is)

-- each piece ends where a member first does; the last may be without an end
abbrev pub IsCut : List (List Item) → Type 0
IsCut [] = Unit {0}
IsCut (p ∷ []) = IsTrue (is_ended false p) ⊎ (IsTrue (has_some p) × IsTrue (is_endless false p))
IsCut (p ∷ q ∷ ps) = IsTrue (is_ended false p) × IsCut (q ∷ ps)
