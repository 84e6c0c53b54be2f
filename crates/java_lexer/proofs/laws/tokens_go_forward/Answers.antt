use Rattle.java_lexer.proofs.Forward.{tokens_forward}
use Rattle.java_lexer.proofs.laws.tokens_go_forward.Goals as goal

pub returns : goal.returns
returns c = tokens_forward
