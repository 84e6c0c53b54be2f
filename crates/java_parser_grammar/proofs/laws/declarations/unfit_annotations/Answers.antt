use Rattle.std.proofs.Common.{codes, refl}
use Rattle.java_parser_grammar.proofs.UnfitRows.{unfit_row}
use Rattle.java_parser_grammar.proofs.laws.declarations.unfit_annotations.Goals as goal

pub returns : goal.returns
returns c = record {
  semicolon = unfit_row (codes "@ A ; class B { }") 5 refl refl refl;
  nameless = unfit_row (codes "@ class A { }") 3 refl refl refl;
  pointed = unfit_row (codes "@ A . class B { }") 7 refl refl refl;
  twice = unfit_row (codes "@ A . B ( x ) ( y ) class C { }") 15 refl refl refl;
  behind = unfit_row (codes "@ A ( ) . B class C { }") 9 refl refl refl;
}
