use Rattle.std.proofs.Common.{◌≡◌, map, length}
use Rattle.java_tree.specs.FormedMethods.{is_any_number_last}
use Rattle.java_tree.specs.View.{parameter_of}
use Rattle.java_parser_methods.proofs.parameters.is_any_number_last.Given as goal

-- the parameters that are left decide
abbrev pub invariant-loop-first : goal.invariant-loop-first
invariant-loop-first l =
    is_any_number_last (map parameter_of l.rest) ≡ is_any_number_last (map parameter_of l.parameters)

abbrev pub decreases-loop-first : goal.decreases-loop-first
decreases-loop-first l = length l.rest
