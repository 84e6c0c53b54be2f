use Rattle.std.proofs.Common.{◌∙◌, sym, ap}
use Rattle.java_lexer.specs.Literals.{escapes_hold}
use Rattle.java_lexer.proofs.JavaScans.{text_unclosed, text_front, text_bad}
use Rattle.java_lexer.proofs.literals.text.Goals as goal

pub returns-in_default : goal.returns-in_default
returns-in_default c = text_unclosed c.args.rest.now (sym c.starts_with.ensures.value ∙ c.if-starts_with.false)
    (sym c.in_default.ensures.gives)

pub returns-then-not-escapes_hold : goal.returns-then-not-escapes_hold
returns-then-not-escapes_hold c = text_bad c.args.rest.now c.in-Some.len
    (sym c.starts_with.ensures.value ∙ c.if-starts_with.false) (sym c.in-Some.ensures.gives)
    (ap escapes_hold (sym c.split_at.ensures.front) ∙ sym c.escapes_hold.ensures ∙ c.if-not-escapes_hold.true)

pub returns : goal.returns
returns c = text_front c.args.rest.now c.in-Some.len (sym c.starts_with.ensures.value ∙ c.if-starts_with.false)
    (sym c.in-Some.ensures.gives) (ap escapes_hold (sym c.split_at.ensures.front) ∙ sym c.escapes_hold.ensures
    ∙ c.if-not-escapes_hold.false)
