use Rattle.std.proofs.Common.{sym, ap, ◌∙◌}
use Rattle.java_resolver.specs.Words.{ends_with, is_annotation_named}
use Rattle.java_resolver.proofs.Searches.{passed, found, missed}
use Rattle.java_resolver.proofs.words.has_annotation.Goals as goal

pub loop-annotation-preserved : goal.loop-annotation-preserved
loop-annotation-preserved c =
    passed (is_annotation_named c.args.name.now) c.args.annotations.now c.loop-annotation.annotation-index
    c.annotation-item.result
    c.loop-annotation-test.true c.annotation-item.is
    (ap (ends_with c.args.name.now) (sym c.as_slice.ensures) ∙ sym c.ends_with.ensures ∙ c.if-ends_with.false)
    c.loop-annotation.invariant

pub returns-then-ends_with : goal.returns-then-ends_with
returns-then-ends_with c =
    found (is_annotation_named c.args.name.now) c.args.annotations.now c.loop-annotation.annotation-index
    c.annotation-item.result
    c.loop-annotation-test.true c.annotation-item.is
    (ap (ends_with c.args.name.now) (sym c.as_slice.ensures) ∙ sym c.ends_with.ensures ∙ c.if-ends_with.true)
    c.loop-annotation.invariant

pub returns : goal.returns
returns c =
    missed (is_annotation_named c.args.name.now) c.args.annotations.now c.loop-annotation.annotation-index
    c.loop-annotation-test.false
    c.loop-annotation.invariant
