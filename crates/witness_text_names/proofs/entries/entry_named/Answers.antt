use Rattle.std.proofs.Common.{◌∙◌}
use Rattle.core_code.specs.Program.{core}
use Rattle.witness_text_names.proofs.EntrySearch.{entry_found, entry_missed, entry_passed}
use Rattle.witness_text_names.proofs.entries.entry_named.Goals as goal

pub loop-index-preserved : goal.loop-index-preserved
loop-index-preserved c =
    entry_passed (core c.args.program.now) c.args.class.now c.args.text.now c.methods-method-items.result.now
    c.loop-index.index c.method-item.result c.in_ok-named.named c.loop-index-test.true c.method-item.is
    c.in_ok-named.ensures c.if-named.false
    ∙ c.loop-index.invariant

pub returns-then-named : goal.returns-then-named
returns-then-named c =
    entry_found (core c.args.program.now) c.args.class.now c.args.text.now c.methods-method-items.result.now
    c.loop-index.index c.in_ok-number.number c.method-item.result c.in_ok-named.named c.loop-index-test.true
    c.method-item.is c.in_ok-named.ensures c.if-named.true c.in_ok-number.ensures
    ∙ c.loop-index.invariant

pub returns : goal.returns
returns c =
    entry_missed (core c.args.program.now) c.args.class.now c.args.text.now c.methods-method-items.result.now
    c.loop-index.index c.loop-index-test.false
    ∙ c.loop-index.invariant
