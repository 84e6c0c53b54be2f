-- The first token of a line that does not fit, by the walk.
use Rattle.std.proofs.Common.{◌≡◌, ℕ, List, [], Option, Some, None, Result, Ok, Err, true, refl}
use Rattle.racer_base.specs.declared.ids.Place.{Place}
use Rattle.java_parser_grammar.specs.Tokens.{first_place}
use Rattle.java_parser_grammar.specs.Cuts.{joined}
use Rattle.java_parser_grammar.specs.Brackets.{unbalanced, too_deep}
use Rattle.java_parser_grammar.specs.Pieces.{Item, items_of}
use Rattle.java_parser_grammar.specs.DeclarationWalk.{Whole, declarations}
use Rattle.java_parser_grammar.specs.UnitExamples.{at, line, end_of, UnfitAt}
use Rattle.java_parser_grammar.proofs.Misfits.{stop_is_misfit}

-- the place where it stops, or none
abbrev place_of : Place → Result (List (List Item)) (List Item) → Option Place
place_of end (Ok ds) = None
place_of end (Err rest) = Some (first_place end (joined rest))

pub unfit_row : (text : List ℕ) (column : ℕ) → unbalanced [] (line text) ≡ None → too_deep 0 (line text) ≡ None
    → place_of (end_of text) (declarations (Whole true true) (items_of (line text))) ≡ Some (at column)
    → UnfitAt text column
unfit_row text column b d e = by_walk (declarations (Whole true true) (items_of (line text))) refl e where
  by_walk : (r : Result (List (List Item)) (List Item)) → declarations (Whole true true) (items_of (line text)) ≡ r
      → place_of (end_of text) r ≡ Some (at column) → UnfitAt text column
  by_walk (Ok ds) w h = absurd cc
  by_walk (Err rest) w h =
      let same : first_place (end_of text) (joined rest) ≡ at column = cc in
      (b, d, rest, stop_is_misfit (items_of (line text)) rest w, same)
