use Rattle.std.proofs.Common.{◌≡◌, map, string_bytes, take}
use Rattle.racer_memory.specs.FileList.{names_of}
use Rattle.racer_memory.proofs.memory_folder.MemoryFolder.all_names.Given as goal

abbrev pub invariant-loop-file : goal.invariant-loop-file
invariant-loop-file l = map string_bytes l.names.items ≡ take l.file-index (names_of l.self.files.items)
