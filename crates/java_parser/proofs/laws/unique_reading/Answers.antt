use Rattle.java_tree.specs.View.{method_of}
use Rattle.java_parser.proofs.laws.unique_reading.Goals as goal

pub returns : goal.returns
returns c first second formed other_formed same =
    c.one_method.ensures (method_of first) (method_of second) formed other_formed same
