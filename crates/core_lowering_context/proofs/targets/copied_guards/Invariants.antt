use Rattle.std.proofs.Common.{◌≡◌, ◌++◌, drop}
use Rattle.core_lowering_context.proofs.targets.copied_guards.Given as goal

abbrev pub invariant-loop-guard : goal.invariant-loop-guard
invariant-loop-guard l = l.copy.items ++ drop l.guard-index l.guards ≡ l.guards
