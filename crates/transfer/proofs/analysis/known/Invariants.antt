use Rattle.std.proofs.Common.{◌≡◌, drop}
use Rattle.std.specs.Option.{option_or}
use Rattle.racer_base.specs.declared.ids.MethodId.{MethodId}
use Rattle.transfer.specs.Callees.{outcome_in}
use Rattle.transfer_steps.specs.Known.{callee_outcome}
use Rattle.transfer.proofs.analysis.known.Given as goal

-- the methods that are known, and those that are left, are all of them
abbrev pub invariant-loop-one : goal.invariant-loop-one
invariant-loop-one l = (m : MethodId) →
    option_or (callee_outcome l.callees.items m) (outcome_in (drop l.one-index l.finished) m) ≡
    outcome_in l.finished m
