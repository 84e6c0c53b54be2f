use Rattle.std.proofs.Common.{inl, inr, List, [], Result, Ok, Err, true, codes, refl}
use Rattle.java_parser_grammar.specs.BalancedReading.{names_at, annotation_at}
use Rattle.java_parser_grammar.specs.ClassHeadReading.{type_modifiers_at}
use Rattle.java_parser_grammar.specs.Pieces.{Item, items_of}
use Rattle.java_parser_grammar.specs.DeclarationWalk.{Whole, declarations}
use Rattle.java_parser_grammar.specs.UnitExamples.{line}
use Rattle.java_parser_grammar.proofs.ReadHeads.{head_sound, no_head}
use Rattle.java_parser_grammar.proofs.laws.answers.whole_file.Goals as goal

abbrev cut_of : Result (List (List Item)) (List Item) → List (List Item)
cut_of (Ok ds) = ds
cut_of (Err rest) = []

pub returns : goal.returns
unfolding type_modifiers_at annotation_at names_at
returns c = record {
  balanced = refl;
  flat = refl;
  all = cut_of (declarations (Whole true true) (items_of (line (codes "@ interface B { } class A { ; }"))));
  fit = record { together = refl; file = refl };
  types = inr (
    no_head _ refl,
    refl,
    inl (
      record {
        modifiers = [];
        name = _;
        head = head_sound _ _ _ refl;
        named = refl;
        placed = refl;
        annotated = refl;
        members = tt;
      },
      tt,
    ),
  );
}
