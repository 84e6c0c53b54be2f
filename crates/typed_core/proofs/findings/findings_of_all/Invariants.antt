use Rattle.std.proofs.Common.{map, drop}
use Rattle.core_code.specs.Core.{method_of}
use Rattle.core_code.specs.Program.{core}
use Rattle.typed_core.proofs.Found.{AreFoundYet}
use Rattle.typed_core.proofs.findings.findings_of_all.Given as goal

abbrev pub invariant-loop-method : goal.invariant-loop-method
invariant-loop-method l =
    AreFoundYet (core l.program) (map method_of (drop l.method-index l.methods)) (map method_of l.methods) l.all.items
