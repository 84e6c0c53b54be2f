use Rattle.java_lexer.specs.JavaKinds.{java_lexis}
use Rattle.java_lexer.proofs.OneDivision.{pieces_joined}
use Rattle.java_lexer.proofs.Calm.{nil_kind}
use Rattle.java_lexer.proofs.laws.pieces_are_the_text.Goals as goal

pub returns : goal.returns
returns c = λ text. pieces_joined java_lexis text nil_kind
