use Rattle.std.proofs.Common.{refl}
use Rattle.java_parser_grammar.specs.BalancedReading.{closed_at, names_at, annotation_at}
use Rattle.java_parser_grammar.specs.ClassHeadReading.{type_modifiers_at}
use Rattle.java_parser_grammar.specs.TypeReading.{points}
use Rattle.java_parser_grammar.proofs.ReadHeads.{no_head}
use Rattle.java_parser_grammar.proofs.laws.classes.skipped_types.Goals as goal

pub returns : goal.returns
unfolding type_modifiers_at closed_at names_at annotation_at points
returns c = record {
  extending = no_head _ refl;
  both = no_head _ refl;
  generic = no_head _ refl;
  interface = no_head _ refl;
  enumeration = no_head _ refl;
  annotation = no_head _ refl;
  letter = no_head _ refl;
}
