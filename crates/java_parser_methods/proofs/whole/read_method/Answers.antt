use Rattle.std.proofs.Common.{map}
use Rattle.java_parser_types.specs.Tokens.{spelled}
use Rattle.java_parser_methods.proofs.WholeMethods.{by_signature, whole_formed, whole_spelled, whole_small}
use Rattle.java_parser_methods.proofs.WholeMethods.{whole_only, whole_none}
use Rattle.java_parser_methods.proofs.whole.read_method.Goals as goal

pub returns-clause-formed : goal.returns-clause-formed
returns-clause-formed c =
    let n = c.args.limit in
    let ts = map spelled c.args.tokens.now in
    whole_formed n ts c.read_method.result (by_signature n ts c.read_method.result c.read_method.ensures.gives)

pub returns-clause-spelled : goal.returns-clause-spelled
returns-clause-spelled c =
    let n = c.args.limit in
    let ts = map spelled c.args.tokens.now in
    whole_spelled n ts c.read_method.result (by_signature n ts c.read_method.result c.read_method.ensures.gives)

pub returns-clause-small : goal.returns-clause-small
returns-clause-small c =
    let n = c.args.limit in
    let ts = map spelled c.args.tokens.now in
    whole_small n ts c.read_method.result (by_signature n ts c.read_method.result c.read_method.ensures.gives)

pub returns-clause-only : goal.returns-clause-only
returns-clause-only c =
    let n = c.args.limit in
    let ts = map spelled c.args.tokens.now in
    whole_only n ts c.read_method.result (by_signature n ts c.read_method.result c.read_method.ensures.gives)

pub returns-clause-none : goal.returns-clause-none
returns-clause-none c =
    let n = c.args.limit in
    let ts = map spelled c.args.tokens.now in
    whole_none n ts c.read_method.result (by_signature n ts c.read_method.result c.read_method.ensures.gives)
