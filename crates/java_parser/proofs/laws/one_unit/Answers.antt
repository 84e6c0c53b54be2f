use Rattle.java_parser.proofs.SameClasses.{same_unit}
use Rattle.java_parser.proofs.laws.one_unit.Goals as goal

pub returns : goal.returns
returns c = λ ts u v h k. same_unit c.one_placed_method.ensures ts u v h k
