-- No public contract rests on this: the first declaration of a file, and what stands behind it.
use Rattle.std.specs.Prelude.{◌≡◌, Bool, true, false, List, [], ◌∷◌, Result, Ok, Err, codes, drop, Some, None}
use Rattle.racer_base.specs.declared.ids.Place.{Place}
use Rattle.java_lexer.specs.declared.token.Token.{Token}
use Rattle.java_parser_grammar.specs.Tokens.{begins_sign, first_place}
use Rattle.java_parser_grammar.specs.Cuts.{joined}
use Rattle.java_parser_grammar.specs.Pieces.{Item, items_of}
use Rattle.java_parser_grammar.specs.DeclarationWalk.{Seen, Whole, Modifiers, AtSign, AnnotationName, AnnotationPoint}
use Rattle.java_parser_grammar.specs.DeclarationWalk.{TypeWord}
use Rattle.java_parser_grammar.specs.DeclarationWalk.{TypeName, Directive, seen_with, is_whole}
use Rattle.java_parser.specs.declared.declarations.Declaration.{Declaration}
use Rattle.java_parser.specs.declared.declarations.Seen as code
use Rattle.java_parser.specs.declared.declarations.Seen.TheVariants as seen

abbrev pub seen_of : code.Seen → Seen
seen_of (seen.Whole early imports) = Whole early imports
seen_of (seen.Modifiers early) = Modifiers early
seen_of (seen.AtSign early) = AtSign early
seen_of (seen.AnnotationName early) = AnnotationName early
seen_of (seen.AnnotationPoint early) = AnnotationPoint early
seen_of seen.TypeWord = TypeWord
seen_of seen.TypeName = TypeName
seen_of seen.Directive = Directive

-- the first declaration: whether it ends with braces, what was seen at its end, and the items behind it; or the items
-- from the first on that does not fit
pub data First : Type 0 where
  Misfit : List Item → First
  Declared : (braces : Bool) → Seen → List Item → First

abbrev pub first_by : (whole : Bool) → Seen → Item → List Item → First → First
first_by true seen i is others = Declared (begins_sign (codes "{") i) seen is
first_by false seen i is others = others

abbrev pub first_declared : Seen → List Item → First
first_declared seen [] = Misfit []
first_declared seen (i ∷ is) =
    elim (seen_with seen i) [
      | None ↦ Misfit (i ∷ is)
      | (Some more) ↦ first_by (is_whole more) more i is (first_declared more is)
    ]

abbrev pub IsMisfit : First → (end place : Place) → Type 0
IsMisfit (Misfit rest) end place = first_place end (joined rest) ≡ place
IsMisfit (Declared braces seen rest) end place = ⊥

-- what the code answers
abbrev pub IsFirst : List Token → (end : Place) → Result Declaration Place → First → Type 0
IsFirst ts end (Ok d) first = first ≡ Declared d.braces (seen_of d.seen) (items_of (drop d.size ts))
IsFirst ts end (Err place) first = IsMisfit first end place
