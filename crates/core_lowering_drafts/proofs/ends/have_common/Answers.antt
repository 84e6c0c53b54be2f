use Rattle.std.proofs.Common.{sym, ap, ◌∙◌}
use Rattle.std.specs.List.{list_any}
use Rattle.core_lowering_drafts.specs.EndSets.{exits_asked}
use Rattle.core_lowering_drafts.proofs.EndSets.{at, none-asked}
use Rattle.core_lowering_drafts.proofs.ends.have_common.Goals as goal

pub returns-in-None : goal.returns-in-None
returns-in-None c =
    sym (ap (λ o. list_any (λ k. at k (exits_asked o)) c.args.exits.now.keys) c.in-None.is
    ∙ none-asked c.args.exits.now.keys)
