use Rattle.std.specs.Arc.{arc_value}
use Rattle.racer_cli.proofs.store_alone.holds.Given as goal

abbrev pub ghosts-shared-L-Ledger : goal.ghosts-shared-L-Ledger
ghosts-shared-L-Ledger g a = record { name = a.blank.name; parts = a.blank.parts }

abbrev pub ghosts-shared-L-StoreRun : goal.ghosts-shared-L-StoreRun
ghosts-shared-L-StoreRun g a = record { program = arc_value a.program.now }
