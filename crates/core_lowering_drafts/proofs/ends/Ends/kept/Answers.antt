use Rattle.std.proofs.Common.{filter, subst}
use Rattle.core_lowering_drafts.specs.Drafts.{Ends, SameEnds, is_kept}
use Rattle.core_lowering_drafts.specs.EndSets.{seen}
use Rattle.core_lowering_drafts.proofs.EndSets.{kept-told}
use Rattle.core_lowering_drafts.proofs.ends.Ends.kept.Goals as goal

pub returns : goal.returns
returns c =
    subst (λ (X : Ends). SameEnds (seen c.leave_out.new.self) (filter (is_kept c.args.exit.0) X)) c.in_ok-ends.ensures
    (kept-told c.in_ok-ends.ends.normal c.in_ok-ends.ends.returns c.in_ok-ends.ends.throws c.in_ok-ends.ends.exits.keys
    c.args.exit.0 (seen c.leave_out.new.self) c.leave_out.ensures)
