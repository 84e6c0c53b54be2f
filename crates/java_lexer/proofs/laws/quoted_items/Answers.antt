use Rattle.java_lexer.proofs.QuotedItems.{quoted_items}
use Rattle.java_lexer.proofs.laws.quoted_items.Goals as goal

pub returns : goal.returns
returns c = quoted_items
