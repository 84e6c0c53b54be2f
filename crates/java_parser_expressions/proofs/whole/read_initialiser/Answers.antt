use Rattle.std.proofs.Common.{map, [], arith}
use Rattle.java_tree.specs.Spelling.{init_onto}
use Rattle.java_tree.specs.Formed.{FormedInit}
use Rattle.java_tree.specs.Nesting.{init_nesting}
use Rattle.java_tree.specs.View.{init_of}
use Rattle.java_parser_grammar.specs.ExpressionReading.{init_at}
use Rattle.java_parser_types.specs.Tokens.{spelled}
use Rattle.java_parser_grammar.proofs.FoundExpressions.{init_found, nothing_leaves, one_init}
use Rattle.java_parser_grammar.proofs.Taken.{pull_nothing}
use Rattle.java_parser_grammar.proofs.SoundJava.{java_sound}
use Rattle.java_parser_types.proofs.WholeTrees.{whole_formed, whole_spelled, whole_small, whole_only, whole_none}
use Rattle.java_parser_expressions.proofs.whole.read_initialiser.Goals as goal

pub returns-clause-formed : goal.returns-clause-formed
returns-clause-formed c = let ts = map spelled c.args.tokens.now in whole_formed init_of FormedInit init_nesting
    init_onto c.args.limit ts (init_at c.args.limit ts) (java_sound.init c.args.limit ts)
    c.whole_initialiser.result c.whole_initialiser.ensures.gives

pub returns-clause-spelled : goal.returns-clause-spelled
returns-clause-spelled c = let ts = map spelled c.args.tokens.now in whole_spelled init_of FormedInit init_nesting
    init_onto c.args.limit ts (init_at c.args.limit ts) (java_sound.init c.args.limit ts)
    c.whole_initialiser.result c.whole_initialiser.ensures.gives

pub returns-clause-small : goal.returns-clause-small
returns-clause-small c = let ts = map spelled c.args.tokens.now in whole_small init_of FormedInit init_nesting
    init_onto c.args.limit ts (init_at c.args.limit ts) (java_sound.init c.args.limit ts)
    c.whole_initialiser.result c.whole_initialiser.ensures.gives

pub returns-clause-only : goal.returns-clause-only
returns-clause-only c = let ts = map spelled c.args.tokens.now in whole_only init_of FormedInit init_nesting init_onto
    c.args.limit ts (init_at c.args.limit ts) (java_sound.init c.args.limit ts) one_init
    c.whole_initialiser.result c.whole_initialiser.ensures.gives

pub returns-clause-none : goal.returns-clause-none
returns-clause-none c = whole_none init_of FormedInit init_nesting init_onto c.args.limit
    (map spelled c.args.tokens.now) (init_at c.args.limit) (λ a f fits. init_found a f c.args.limit [] fits
    (omega (arith, pull_nothing)) nothing_leaves) c.whole_initialiser.result c.whole_initialiser.ensures.gives
