use Rattle.core_code.specs.Counting.{flags_of}
use Rattle.core_code.specs.Program.{core}
use Rattle.summary_store.proofs.Opening.{AreSorted}
use Rattle.summary_store.proofs.starting.first_lists.Given as goal

abbrev pub invariant-loop-m : goal.invariant-loop-m
invariant-loop-m l = AreSorted (flags_of (core l.program)) l.workers l.m l.lists
