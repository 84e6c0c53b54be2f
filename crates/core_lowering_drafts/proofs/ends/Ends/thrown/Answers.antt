use Rattle.std.proofs.Common.{false, ap, ◌∙◌}
use Rattle.core_lowering_drafts.specs.EndSets.{listed}
use Rattle.core_lowering_drafts.proofs.EndSets.{thrown-listed}
use Rattle.core_lowering_drafts.proofs.ends.Ends.thrown.Goals as goal

pub returns : goal.returns
returns c =
    ap (λ xs. listed false false c.args.self.now.throws xs) c.new.ensures.empty
    ∙ thrown-listed c.args.self.now.normal c.args.self.now.returns c.args.self.now.throws c.args.self.now.exits.keys
