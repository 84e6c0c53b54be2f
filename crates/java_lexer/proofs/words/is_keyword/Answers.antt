use Rattle.java_lexer.proofs.Tables.{keywords_listed}
use Rattle.java_lexer.proofs.words.is_keyword.Goals as goal

pub returns-in-Some : goal.returns-in-Some
returns-in-Some c = rw (c.is_listed.ensures, c.keywords_with.ensures, c.in-Some.ensures.cases.0)
    (keywords_listed c.in-Some.first.now c.in-Some.field-0-1.now)
