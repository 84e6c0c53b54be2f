use Rattle.std.proofs.Common.{sym, ap, ◌∙◌}
use Rattle.core_lowering_drafts.specs.EndSets.{exits_asked}
use Rattle.core_lowering_drafts.proofs.ends.copied_exits.Goals as goal

pub returns-in-None : goal.returns-in-None
returns-in-None c = c.new.ensures.empty ∙ sym (ap exits_asked c.in-None.is)
