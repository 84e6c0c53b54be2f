use Rattle.std.proofs.Common.{rules, ◌≡◌, map}
use Rattle.java_parser_types.specs.Tokens.{spelled}
use Rattle.java_parser_expressions.proofs.ClassFacts.{class_given}
use Rattle.java_parser_types.proofs.ReadLoops.{ends_give}
use Rattle.java_parser_expressions.proofs.class_names.class.Goals as goal

pub returns-clause-gives : goal.returns-clause-gives
returns-clause-gives c read n =
    let ts = map spelled c.args.tokens.now in
    let same : c.args.token.now.text ≡ c.in_ok-name.name.text = search rules in
    rw same (ends_give _ c.names.result _ _ (class_given read n c.in_ok-name.name.text ts c.requires.follows)
    c.names.ensures.gives)
