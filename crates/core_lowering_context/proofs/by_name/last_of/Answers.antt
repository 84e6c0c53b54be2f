use Rattle.std.proofs.Common.{◌∙◌}
use Rattle.core_lowering_context.proofs.NamedVariables.{last-got}
use Rattle.core_lowering_context.proofs.by_name.last_of.Goals as goal

pub returns : goal.returns
returns c = c.copied.ensures ∙ c.last.ensures.value ∙ last-got c.args.all.now
