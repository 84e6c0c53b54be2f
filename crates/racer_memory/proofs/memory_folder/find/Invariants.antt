use Rattle.std.proofs.Common.{◌≡◌, drop}
use Rattle.racer_memory.proofs.FirstFile.{bytes_of}
use Rattle.racer_memory.proofs.memory_folder.find.Given as goal

abbrev pub invariant-loop-file : goal.invariant-loop-file
invariant-loop-file l = bytes_of l.files l.name ≡ bytes_of (drop l.file-index l.files) l.name
