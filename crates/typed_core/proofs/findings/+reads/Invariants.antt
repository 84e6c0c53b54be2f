use Rattle.std.proofs.Common.{map, drop}
use Rattle.core_code.specs.Program.{core}
use Rattle.core_code.specs.Tree.{in_sequence, tree_of}
use Rattle.typed_core.proofs.ReadClasses.{AreReadYet}
use Rattle.typed_core.proofs.findings.+reads.Given as goal

abbrev pub invariant-push_all_reads-loop-part : goal.invariant-push_all_reads-loop-part
invariant-push_all_reads-loop-part l =
    AreReadYet (core l.program) (in_sequence (map tree_of (drop l.part-index l.parts)))
    (in_sequence (map tree_of l.parts)) l.fn.reads.items l.reads.items
