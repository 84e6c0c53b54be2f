use Rattle.std.proofs.Common.{refl}
use Rattle.java_parser_grammar.specs.BalancedReading.{closed_at, names_at, annotation_at}
use Rattle.java_parser_grammar.specs.ClassHeadReading.{type_modifiers_at}
use Rattle.java_parser_grammar.specs.TypeReading.{points}
use Rattle.java_parser_grammar.proofs.ReadHeads.{head_sound}
use Rattle.java_parser_grammar.proofs.laws.classes.read_classes.Goals as goal

pub returns : goal.returns
unfolding type_modifiers_at closed_at names_at annotation_at points
returns c = record {
  bare = record { modifiers = _; token = _; head = head_sound _ _ _ refl; annotated = refl; named = refl };
  implementing = record { modifiers = _; token = _; head = head_sound _ _ _ refl; annotated = refl; named = refl };
  modified = record { modifiers = _; token = _; head = head_sound _ _ _ refl; annotated = refl; named = refl };
}
