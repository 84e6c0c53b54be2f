use Rattle.std.proofs.Common.{◌≡◌, drop, map}
use Rattle.java_tree.specs.Formed.{are_bare_parts}
use Rattle.java_tree.specs.Trees.{pack_parts}
use Rattle.java_tree.specs.View.{part_of}
use Rattle.java_parser_expressions.proofs.references.are_bare.Given as goal

abbrev pub invariant-loop-part : goal.invariant-loop-part
invariant-loop-part l = are_bare_parts (pack_parts (map part_of (drop l.part-index l.parts))) ≡ are_bare_parts
    (pack_parts (map part_of l.parts))
