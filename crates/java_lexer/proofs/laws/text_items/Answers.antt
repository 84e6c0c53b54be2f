use Rattle.java_lexer.proofs.TextItems.{text_items}
use Rattle.java_lexer.proofs.laws.text_items.Goals as goal

pub returns : goal.returns
returns c = text_items
