use Rattle.std.proofs.Common.{◌∙◌}
use Rattle.java_parser_types.proofs.ExactTypes.{types_measured}
use Rattle.java_parser_types.proofs.type_lists.in_angles.Goals as goal

pub invariant_of-result : goal.invariant_of-result
invariant_of-result c =
    record {
      measured =
          rw c.from-trees.ensures (c.args.types.measured ∙ types_measured c.args.types.trees.items c.args.glued);
    }
