use Rattle.std.proofs.Common.{◌≡◌, drop}
use Rattle.transfer_steps.specs.Known.{callee_outcome}
use Rattle.transfer_steps.proofs.calls.callee_outcome.Given as goal

abbrev pub invariant-loop-callee : goal.invariant-loop-callee
invariant-loop-callee l =
    callee_outcome (drop l.callee-index l.callees) l.method ≡ callee_outcome l.callees l.method
