use Rattle.std.proofs.Common.{refl}
use Rattle.java_lexer.specs.Divisions.{longest_piece, next_piece, pieces_upto}
use Rattle.java_lexer.specs.Signs.{signs}
use Rattle.java_lexer.specs.Fronts.{some_front}
use Rattle.java_lexer.proofs.laws.java_examples.Goals as goal

pub returns : goal.returns
unfolding longest_piece next_piece pieces_upto signs some_front
returns c = record {
  shifts = λ file. refl;
  exponents = λ file. refl;
  dots = λ file. refl;
  whole = λ file. refl;
}
