use Rattle.racer_memory.proofs.FileLemmas.{none_distinct, more_distinct, all_distinct, repeated_name, names_found}
use Rattle.racer_memory.proofs.memory_folder.MemoryFolder.names_differ.Goals as goal

pub loop-i-init : goal.loop-i-init
loop-i-init c = none_distinct

pub loop-i-preserved : goal.loop-i-preserved
loop-i-preserved c =
    let new = names_found _ _ _ _ _ c.find.ensures c.if-is_some.ensures in
    more_distinct c.args.files.now c.loop-i.i c.index-files-i.result c.as_str.result.now c.loop-i-test.true
    c.index-files-i.is c.as_str.ensures.value c.loop-i.invariant new

pub returns-then-is_some : goal.returns-then-is_some
returns-then-is_some c =
    let found = names_found _ _ _ _ _ c.find.ensures c.if-is_some.ensures in
    let twice = repeated_name c.args.files.now c.loop-i.i c.index-files-i.result c.as_str.result.now c.loop-i-test.true
    c.index-files-i.is c.as_str.ensures.value found in
    (λ e. cc, λ d. absurd (twice d))

pub returns : goal.returns
returns c = all_distinct c.args.files.now c.loop-i.i c.loop-i-test.false c.loop-i.invariant
