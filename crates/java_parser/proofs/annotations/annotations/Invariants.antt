use Rattle.std.proofs.Common.{◌≡◌, ◌++◌, map}
use Rattle.java_tree.specs.View.{annotation_of, modifier_of}
use Rattle.java_parser_grammar.specs.ClassHeads.{annotations_in}
use Rattle.java_parser.proofs.annotations.annotations.Given as goal

abbrev pub invariant-loop-modifier : goal.invariant-loop-modifier
invariant-loop-modifier l =
    map annotation_of l.items ++ annotations_in (map modifier_of l.modifier-iterator.rest.items)
    ≡ annotations_in (map modifier_of l.fn.modifiers.items)
