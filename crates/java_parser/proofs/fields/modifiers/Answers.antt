use Rattle.std.proofs.Common.{map}
use Rattle.java_tree.specs.View.{modifier_of}
use Rattle.java_parser.proofs.ModifierSteps.{modifiers_left}
use Rattle.java_parser.proofs.fields.modifiers.Goals as goal

pub returns-clause-read : goal.returns-clause-read
returns-clause-read c =
    modifiers_left c.args.tokens.now c.cut.result.0.now c.cut.result.1.now c.in_ok-items.left.now
    (map modifier_of c.in_ok-items.items.items) c.cut.ensures.parts c.cut.ensures.size c.in_ok-items.ensures.read
