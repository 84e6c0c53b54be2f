use Rattle.std.proofs.Common.{◌∙◌, sym, ap}
use Rattle.java_lexer.specs.Scanning.{closed_len}
use Rattle.java_lexer.proofs.JavaScans.{block_scanned, block_fault}
use Rattle.java_lexer.proofs.comments.block_comment.Goals as goal

pub returns-in-Some-closed_len : goal.returns-in-Some-closed_len
returns-in-Some-closed_len c =
    let cases = c.in-Some.ensures.cases in
    block_scanned c.args.bytes.now c.in-Some-closed_len.len c.requires
    (ap closed_len (sym cases.2) ∙ sym c.in-Some-closed_len.ensures.gives)

pub returns-in-None : goal.returns-in-None
returns-in-None c =
    let cases = c.in-Some.ensures.cases in
    block_fault c.args.bytes.now c.requires (ap closed_len (sym cases.2) ∙ sym c.in-None.ensures.gives)
