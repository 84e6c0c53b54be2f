-- A contract of a public call rests on this: the program's exit status for each status of a run.
use Rattle.std.specs.Prelude.{ℕ}
use Rattle.racer_run.specs.declared.status.Status.{Status}
use Rattle.racer_run.specs.declared.status.Status.TheVariants.{Clean, Warned, Usage, FolderFault, SinkFault, Refused}
use Rattle.racer_run.specs.declared.status.Status.TheVariants.{Memory, NoRace, NotAWitness, NotEdits}

abbrev pub number_of : Status → ℕ
number_of Clean = 0
number_of Warned = 1
number_of Usage = 2
number_of FolderFault = 3
number_of SinkFault = 4
number_of Refused = 5
number_of Memory = 6
number_of NoRace = 7
number_of NotAWitness = 8
number_of NotEdits = 9
