use Rattle.std.proofs.Common.{take}
use Rattle.std.specs.List.{IsDistinct}
use Rattle.racer_base.specs.Outside.{same_name}
use Rattle.racer_memory.specs.FileList.{names_of}
use Rattle.racer_memory.proofs.memory_folder.MemoryFolder.names_differ.Given as goal

abbrev pub invariant-loop-i : goal.invariant-loop-i
invariant-loop-i l = IsDistinct same_name (names_of (take l.i l.files))
