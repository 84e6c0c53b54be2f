use Rattle.std.proofs.Common.{◌∙◌}
use Rattle.transfer_ties.proofs.Sets.{present}
use Rattle.transfer_ties.proofs.renumbering.put.Goals as goal

pub returns-in-Present : goal.returns-in-Present
returns-in-Present c =
    c.in-Present.ensures.cases.1 ∙ present c.args.paths.now c.args.path c.in-Present.ensures.cases.0
