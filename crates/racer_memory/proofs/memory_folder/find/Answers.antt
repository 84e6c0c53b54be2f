use Rattle.std.proofs.Common.{sym, ◌∙◌}
use Rattle.std.proofs.lemmas.List.{at_drop_all}
use Rattle.racer_memory.proofs.FirstFile.{bytes_of}
use Rattle.racer_memory.proofs.FileLemmas.{bytes_of-step, get-files_of}
use Rattle.racer_memory.proofs.memory_folder.find.Goals as goal

pub returns-then-eq : goal.returns-then-eq
returns-then-eq c =
    sym (get-files_of _ _
    ∙ bytes_of-step _ c.args.files.now c.loop-file.file-index c.file-item.result _ c.as_str.result.now _
    c.loop-file.invariant c.loop-file-test.true c.file-item.is c.as_str.ensures.value c.if-eq.ensures)

pub loop-file-preserved : goal.loop-file-preserved
loop-file-preserved c =
    bytes_of-step _ c.args.files.now c.loop-file.file-index c.file-item.result _ c.as_str.result.now _
    c.loop-file.invariant c.loop-file-test.true c.file-item.is c.as_str.ensures.value c.if-eq.ensures

pub returns : goal.returns
returns c =
    let name = c.args.name.now in
    sym (get-files_of _ name ∙ c.loop-file.invariant
    ∙ at_drop_all (λ files. bytes_of files name) c.args.files.now c.loop-file.file-index c.loop-file-test.false)
