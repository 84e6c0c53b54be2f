use Rattle.std.proofs.Common.{sym, ◌∙◌}
use Rattle.java_resolver.specs.Words.{is_modifier_named}
use Rattle.java_resolver.proofs.Searches.{passed, found, missed}
use Rattle.java_resolver.proofs.words.is_annotated.Goals as goal

pub loop-modifier-preserved : goal.loop-modifier-preserved
loop-modifier-preserved c =
    passed (is_modifier_named c.args.name.now) c.args.modifiers.now c.loop-modifier.modifier-index
    c.modifier-item.result
    c.loop-modifier-test.true c.modifier-item.is (sym c.is_modifier_named.ensures ∙ c.if-is_modifier_named.false)
    c.loop-modifier.invariant

pub returns-then-is_modifier_named : goal.returns-then-is_modifier_named
returns-then-is_modifier_named c =
    found (is_modifier_named c.args.name.now) c.args.modifiers.now c.loop-modifier.modifier-index c.modifier-item.result
    c.loop-modifier-test.true c.modifier-item.is (sym c.is_modifier_named.ensures ∙ c.if-is_modifier_named.true)
    c.loop-modifier.invariant

pub returns : goal.returns
returns c =
    missed (is_modifier_named c.args.name.now) c.args.modifiers.now c.loop-modifier.modifier-index
    c.loop-modifier-test.false
    c.loop-modifier.invariant
