use Rattle.std.proofs.Common.{sym, ◌∙◌}
use Rattle.java_resolver.specs.Words.{is_word}
use Rattle.java_resolver.proofs.Searches.{passed, found, missed}
use Rattle.java_resolver.proofs.words.has_word.Goals as goal

pub loop-modifier-preserved : goal.loop-modifier-preserved
loop-modifier-preserved c =
    passed (is_word c.args.word.now) c.args.modifiers.now c.loop-modifier.modifier-index c.modifier-item.result
    c.loop-modifier-test.true c.modifier-item.is (sym c.is_word.ensures ∙ c.if-is_word.false) c.loop-modifier.invariant

pub returns-then-is_word : goal.returns-then-is_word
returns-then-is_word c =
    found (is_word c.args.word.now) c.args.modifiers.now c.loop-modifier.modifier-index c.modifier-item.result
    c.loop-modifier-test.true c.modifier-item.is (sym c.is_word.ensures ∙ c.if-is_word.true) c.loop-modifier.invariant

pub returns : goal.returns
returns c =
    missed (is_word c.args.word.now) c.args.modifiers.now c.loop-modifier.modifier-index c.loop-modifier-test.false
    c.loop-modifier.invariant
