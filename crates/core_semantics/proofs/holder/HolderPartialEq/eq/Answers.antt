use Rattle.std.proofs.Common.{ap, ◌∙◌}
use Rattle.std.specs.Ordering.{is_eq}
use Rattle.core_semantics.specs.SameMonitor.{monitors_tied}
use Rattle.core_semantics.proofs.holder.HolderPartialEq.eq.Goals as goal

pub returns : goal.returns
returns c = c.is_eq.ensures ∙ ap is_eq c.compare.ensures ∙ monitors_tied c.args.self.now c.args.other.now
