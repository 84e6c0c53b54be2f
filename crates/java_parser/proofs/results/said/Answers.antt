use Rattle.std.proofs.Common.{ap, Err}
use Rattle.std.proofs.lemmas.Result.{IfOk-weaker}
use Rattle.java_parser_grammar.specs.Heads.{HeadSays}
use Rattle.java_parser.specs.ResultParts.{SaysResult}
use Rattle.java_parser.proofs.ResultSteps.{head_says, head_says_nothing}
use Rattle.java_parser.proofs.results.said.Goals as goal

pub returns-in-Ok : goal.returns-in-Ok
returns-in-Ok c =
    IfOk-weaker c.result_of.result (SaysResult c.in-Ok.rest.now) (HeadSays c.args.front.now)
    (λ r s. head_says c.args.front.now c.in-Ok.rest.now r c.in-Ok.ensures.rest c.in-Ok.ensures.end s)
    c.result_of.ensures

pub returns-in-Err-Unformed : goal.returns-in-Err-Unformed
returns-in-Err-Unformed c = head_says_nothing c.args.front.now (c.in-Err-Unformed.ensures.none
    (ap Err c.in-Err-Unformed.field-0-is))
