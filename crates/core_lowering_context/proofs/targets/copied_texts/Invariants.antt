use Rattle.std.proofs.Common.{◌≡◌, ◌++◌, drop}
use Rattle.core_lowering_context.proofs.targets.copied_texts.Given as goal

abbrev pub invariant-loop-text : goal.invariant-loop-text
invariant-loop-text l = l.copy.items ++ drop l.text-index l.texts ≡ l.texts
