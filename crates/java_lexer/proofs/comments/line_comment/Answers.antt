use Rattle.java_lexer.proofs.JavaScans.{line_scanned}
use Rattle.java_lexer.proofs.comments.line_comment.Goals as goal

pub returns : goal.returns
returns c =
    let cases = c.in-Some.ensures.cases in
    rw (c.inline_len.ensures.gives, cases.2) (line_scanned c.args.bytes.now c.requires)
