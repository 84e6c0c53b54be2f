use Rattle.std.proofs.Common.{ap, ◌∙◌}
use Rattle.core_lowering_drafts.specs.Drafts.{Ends, Normal, without}
use Rattle.core_lowering_drafts.proofs.EndSets.{without-listed}
use Rattle.core_lowering_drafts.proofs.ends.Ends.without_normal.Goals as goal

pub returns : goal.returns
returns c =
    let b = c.in_ok-ends.ends in
    without-listed b.normal b.returns b.throws b.exits.keys ∙ ap (λ (X : Ends). without Normal X)
    c.in_ok-ends.ensures
