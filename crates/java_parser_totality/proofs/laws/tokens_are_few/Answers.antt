use Rattle.java_parser_totality.proofs.FewTokens.{lexed-few}
use Rattle.java_parser_totality.proofs.laws.tokens_are_few.Goals as goal

pub returns : goal.returns
returns c = lexed-few
