use Rattle.std.proofs.Common.{codes, refl}
use Rattle.java_parser_grammar.proofs.UnfitRows.{unfit_row}
use Rattle.java_parser_grammar.proofs.laws.declarations.unfit_tokens.Goals as goal

pub returns : goal.returns
returns c = record {
  field = unfit_row (codes "int x ;") 1 refl refl refl;
  modifier = unfit_row (codes "synchronized class A { }") 1 refl refl refl;
  second = unfit_row (codes "class A { } int x ;") 13 refl refl refl;
  nameless = unfit_row (codes "class { }") 7 refl refl refl;
  keyword = unfit_row (codes "enum int { }") 6 refl refl refl;
  twice = unfit_row (codes "class class A { }") 7 refl refl refl;
  semicolon = unfit_row (codes "public ; class A { }") 8 refl refl refl;
  braces = unfit_row (codes "{ }") 1 refl refl refl;
}
