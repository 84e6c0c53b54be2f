use Rattle.std.proofs.Common.{◌≡◌, ◌++◌, drop}
use Rattle.core_code.specs.Chains.{flag_of}
use Rattle.core_lowering_surveys.specs.Reasons.{with_recursive}
use Rattle.core_lowering_surveys.proofs.reasons.statuses.Given as goal

abbrev pub invariant-loop-index : goal.invariant-loop-index
invariant-loop-index l =
    l.made.items ++ with_recursive (flag_of l.recursive) l.index (drop l.index l.reasons) ≡
    with_recursive (flag_of l.recursive) 0 l.reasons
