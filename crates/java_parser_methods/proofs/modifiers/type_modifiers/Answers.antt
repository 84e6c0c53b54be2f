use Rattle.std.proofs.Common.{length, map, subst}
use Rattle.java_tree.specs.View.{modifier_of}
use Rattle.java_parser_types.specs.ReadAnswer.{Gives}
use Rattle.java_parser_types.specs.Tokens.{spelled}
use Rattle.java_parser_methods.proofs.ModifierLoops.{listed_of_type}
use Rattle.java_parser_methods.proofs.modifiers.type_modifiers.Goals as goal

pub returns-clause-gives : goal.returns-clause-gives
returns-clause-gives c =
    let ts = map spelled c.args.tokens.now in
    subst (λ o. Gives (λ x. (map modifier_of x.0.items, map spelled x.1.now)) c.listed.result o)
    (listed_of_type (length ts) ts) c.listed.ensures.gives
