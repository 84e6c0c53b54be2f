use Rattle.std.proofs.Common.{refl}
use Rattle.java_lexer.specs.Signs.{signs}
use Rattle.java_lexer.specs.Fronts.{some_front}
use Rattle.java_lexer.proofs.laws.fault_examples.Goals as goal

pub returns : goal.returns
unfolding signs some_front
returns c = record {
  short_comment = refl;
  line_feed = refl;
  long_octal = refl;
  octal_in_text = refl;
  three_quotes = refl;
  open_escape = refl;
}
