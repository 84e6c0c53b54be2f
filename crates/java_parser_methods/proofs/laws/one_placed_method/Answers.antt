use Rattle.std.proofs.Common.{sym, ◌∙◌}
use Rattle.java_tree.specs.KeptPlaces.{kept}
use Rattle.java_tree.specs.View.{method_of}
use Rattle.java_parser_grammar.proofs.FoundJava.{one_java_method}
use Rattle.java_parser_methods.proofs.SameMarks.{same_marks}
use Rattle.java_parser_methods.proofs.laws.one_placed_method.Goals as goal

pub returns : goal.returns
returns c tokens a b x y =
    let e = one_java_method (method_of a) (method_of b) x.formed y.formed (x.spells ∙ sym y.spells) in
    (e, same_marks a b (kept tokens) e x.stands y.stands)
