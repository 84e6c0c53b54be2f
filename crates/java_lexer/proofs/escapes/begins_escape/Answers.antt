use Rattle.std.proofs.Common.{◌∙◌}
use Rattle.java_lexer.proofs.EscapeFronts.{begins_is}
use Rattle.java_lexer.proofs.escapes.begins_escape.Goals as goal

pub returns : goal.returns
returns c = c.begins.ensures ∙ begins_is c.args.quote c.args.bytes.now
