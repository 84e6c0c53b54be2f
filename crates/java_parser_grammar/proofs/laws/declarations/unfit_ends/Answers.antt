use Rattle.std.proofs.Common.{codes, refl}
use Rattle.java_parser_grammar.proofs.UnfitRows.{unfit_row}
use Rattle.java_parser_grammar.proofs.laws.declarations.unfit_ends.Goals as goal

pub returns : goal.returns
returns c = record {
  unclosed_type = unfit_row (codes "class A") 8 refl refl refl;
  line = unfit_row (codes "class A ;") 10 refl refl refl;
  bracketed = unfit_row (codes "class A ( { } )") 16 refl refl refl;
  unclosed_package = unfit_row (codes "package a") 10 refl refl refl;
  unclosed_import = unfit_row (codes "import { ; }") 13 refl refl refl;
  annotation = unfit_row (codes "@ A") 4 refl refl refl;
  word = unfit_row (codes "public") 7 refl refl refl;
}
