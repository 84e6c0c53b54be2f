use Rattle.std.proofs.Common.{◌∙◌, sym, ap}
use Rattle.java_lexer.specs.Literals.{is_one_character}
use Rattle.java_lexer.proofs.JavaScans.{character_unclosed, character_front, character_bad}
use Rattle.java_lexer.proofs.literals.character.Goals as goal

pub returns-in_default : goal.returns-in_default
returns-in_default c = character_unclosed c.args.rest.now (sym c.in_default.ensures.gives)

pub returns-then-not-is_one_character : goal.returns-then-not-is_one_character
returns-then-not-is_one_character c = character_bad c.args.rest.now c.in-Some.len (sym c.in-Some.ensures.gives)
    (ap is_one_character (sym c.split_at.ensures.front) ∙ sym c.is_one_character.ensures
    ∙ c.if-not-is_one_character.true)

pub returns : goal.returns
returns c = character_front c.args.rest.now c.in-Some.len (sym c.in-Some.ensures.gives)
    (ap is_one_character (sym c.split_at.ensures.front) ∙ sym c.is_one_character.ensures
    ∙ c.if-not-is_one_character.false)
