use Rattle.std.specs.Prelude.{◌↔◌, IsTrue}
use Rattle.std.proofs.lemmas.Result.{IfOk-weaker}
use Rattle.java_parser_grammar.specs.Heads.{EndsInResult}
use Rattle.java_parser.specs.ResultParts.{IsAnyResult}
use Rattle.java_parser.proofs.ResultSteps.{ends_by, ends_not}
use Rattle.java_parser.proofs.results.ends_in_result.Goals as goal

pub returns-in-Some : goal.returns-in-Some
returns-in-Some c =
    IfOk-weaker c.is_result.result (IsAnyResult c.in-Some.part.now) (λ known. IsTrue known ↔ EndsInResult
    c.args.tokens.now)
    (λ known any. ends_by c.args.tokens.now c.in-Some.part.now known c.in-Some.ensures.part any) c.is_result.ensures

pub returns-in-None : goal.returns-in-None
returns-in-None c = ends_not c.args.tokens.now c.in-None.ensures.none
