use Rattle.java_parser.proofs.ResultSteps.{modifiers_left}
use Rattle.java_parser.proofs.results.behind_modifiers.Goals as goal

pub returns-clause-rest : goal.returns-clause-rest
returns-clause-rest c =
    modifiers_left c.args.front.now c.cut.result.0.now c.cut.result.1.now c.in_ok-left.left.now c.cut.ensures.parts
    c.cut.ensures.size c.in_ok-left.ensures.left
