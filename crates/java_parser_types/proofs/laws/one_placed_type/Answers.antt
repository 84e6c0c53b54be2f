use Rattle.std.proofs.Common.{sym, ◌∙◌}
use Rattle.java_tree.specs.View.{ty_of}
use Rattle.java_parser_grammar.proofs.FoundTypes.{one_type}
use Rattle.java_parser_types.proofs.laws.one_placed_type.Goals as goal

pub returns : goal.returns
returns c tokens a b x y =
    (one_type (ty_of a) (ty_of b) x.formed y.formed (x.spells ∙ sym y.spells), x.stands ∙ sym y.stands)
