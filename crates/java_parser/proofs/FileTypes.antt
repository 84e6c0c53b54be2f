-- What the walk over a file finds are the types of the file, or what does not fit.
use Rattle.std.proofs.Common.{◌≡◌, true, List, [], ◌∷◌, Result, Ok, Err, map, filter, refl, ap, sym, ◌∙◌, codes}
use Rattle.std.proofs.Common.{length, ◌≤◌, arith}
use Rattle.std.specs.Prelude.{if◌then◌else◌}
use Rattle.std.proofs.lemmas.List.{append-nil}
use Rattle.racer_base.specs.declared.ids.Place.{Place}
use Rattle.java_lexer.specs.declared.token.Token.{Token}
use Rattle.java_tree.specs.declared.unit.ParseFault.TheVariants.{NotAUnit}
use Rattle.java_parser_grammar.specs.Tokens.{begins_sign}
use Rattle.java_parser_grammar.specs.Cuts.{joined, ends}
use Rattle.java_parser_grammar.specs.Pieces.{Item, items_of}
use Rattle.java_parser_grammar.specs.DeclarationWalk.{Seen, Whole, is_whole, declarations}
use Rattle.java_parser_grammar.proofs.WalkedFiles.{walk_is_file, types_end_with_braces}
use Rattle.java_parser_grammar.proofs.Misfits.{stop_is_misfit}
use Rattle.java_parser.specs.DeclaredTypes.{AreTypes, IsNoUnit}
use Rattle.java_parser.specs.WalkedTypes.{typed, types_from, with_types, IsMisfitAt}

pub walked_types : (is : List Item) (types : List (List Token)) → types_from (Whole true true) is ≡ Ok types
    → AreTypes is types
walked_types is types e = by_walk (declarations (Whole true true) is) refl e where
  by_walk : (r : Result (List (List Item)) (List Item)) → declarations (Whole true true) is ≡ r → typed r ≡ Ok types
      → AreTypes is types
  by_walk (Ok ds) w h =
      let fit = walk_is_file is ds w in
      let same : map joined (filter (ends (begins_sign (codes "{"))) ds) ≡ types = cc in
      record { all = ds; fit = fit; among = ap (map joined) (types_end_with_braces is ds fit) ∙ same }
  by_walk (Err rest) w h = absurd cc

-- at the end of the walk
pub all_walked : (is : List Item) (front : List (List Token)) (seen : Seen) (left : List Token) → length left ≤ 0
    → is_whole seen ≡ true → with_types front (types_from seen (items_of left)) ≡ types_from (Whole true true) is
    → AreTypes is front
all_walked is front seen [] n w h =
    walked_types is front (sym h ∙ ap (λ b. with_types front (typed (if b then Ok [] else Err []))) w
    ∙ ap Ok (append-nil front))
all_walked is front seen (t ∷ ts) n w h = absurd (omega arith)

pub walked_fault : (is : List Item) (end place : Place) → IsMisfitAt end place (types_from (Whole true true) is)
    → IsNoUnit end (NotAUnit place) is
walked_fault is end place h = by_walk (declarations (Whole true true) is) refl h where
  by_walk : (r : Result (List (List Item)) (List Item)) → declarations (Whole true true) is ≡ r
      → IsMisfitAt end place (typed r) → IsNoUnit end (NotAUnit place) is
  by_walk (Ok ds) w k = absurd k
  by_walk (Err rest) w k = (rest, stop_is_misfit is rest w, k)
