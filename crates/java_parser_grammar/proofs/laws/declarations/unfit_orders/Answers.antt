use Rattle.std.proofs.Common.{codes, refl}
use Rattle.java_parser_grammar.proofs.UnfitRows.{unfit_row}
use Rattle.java_parser_grammar.proofs.laws.declarations.unfit_orders.Goals as goal

pub returns : goal.returns
returns c = record {
  packages = unfit_row (codes "package a ; package b ;") 13 refl refl refl;
  late_package = unfit_row (codes "import a ; package b ;") 12 refl refl refl;
  last_package = unfit_row (codes "class A { } package b ;") 13 refl refl refl;
  annotated_package = unfit_row (codes "package a ; @ N package b ;") 17 refl refl refl;
  package_with_word = unfit_row (codes "public @ N package a ;") 12 refl refl refl;
  late_import = unfit_row (codes "class A { } ; import b ;") 15 refl refl refl;
  annotated_import = unfit_row (codes "@ A import b ;") 5 refl refl refl;
  noted_import = unfit_row (codes "@ A ( ) import b ;") 9 refl refl refl;
  modified_import = unfit_row (codes "public import b ;") 8 refl refl refl;
}
