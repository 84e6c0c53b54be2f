use Rattle.std.proofs.Common.{ap, sym, ◌∙◌, subst, List, ℕ}
use Rattle.std.specs.List.{IsDistinct, list_any}
use Rattle.racer_base.specs.Outside.{same_name}
use Rattle.racer_memory.proofs.FileLemmas.{names-files_of}
use Rattle.racer_memory.proofs.memory_folder.MemoryFolderFolder.names.Goals as goal

pub returns-clause-names : goal.returns-clause-names
returns-clause-names c =
    let are = c.in_ok-all_names.ensures in
    record {
      each_once = subst (λ (names : List (List ℕ)). IsDistinct same_name names) (sym are) c.args.self.now.each_once;
      members = λ name. names-files_of c.args.self.now.files.items name ∙ ap (list_any (same_name name)) (sym are);
    }
