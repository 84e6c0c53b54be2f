use Rattle.std.proofs.Common.{ap}
use Rattle.core_lowering_drafts.specs.EndSets.{listed}
use Rattle.core_lowering_drafts.proofs.ends.Asked.copied.Goals as goal

pub returns : goal.returns
returns c = ap (λ xs. listed c.args.self.normal c.args.self.returns c.args.self.throws xs) c.in_ok-exits.ensures
