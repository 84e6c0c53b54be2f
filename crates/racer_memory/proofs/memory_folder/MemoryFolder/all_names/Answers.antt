use Rattle.std.proofs.Common.{arith}
use Rattle.std.proofs.lemmas.Grind.{common_steps}
use Rattle.std.proofs.lemmas.List.{take_more, take-map}
use Rattle.racer_memory.proofs.FileLemmas.{all_read}
use Rattle.racer_memory.proofs.memory_folder.MemoryFolder.all_names.Goals as goal

pub loop-file-preserved : goal.loop-file-preserved
loop-file-preserved c =
    let clone = c.in_ok-clone.ensures.cases in
    let item = c.file-item.is in
    grind (arith, common_steps, take_more, take-map, clone, item)

pub returns : goal.returns
returns c =
    all_read _ c.args.self.now.files.items _ _ c.loop-file.invariant c.deref-file-items.ensures.value
    c.loop-file-test.false
