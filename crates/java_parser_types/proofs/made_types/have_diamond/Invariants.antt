use Rattle.std.proofs.Common.{◌≡◌, map, drop}
use Rattle.java_tree.specs.Trees.{pack_parts}
use Rattle.java_tree.specs.View.{part_of}
use Rattle.java_parser_grammar.specs.TypeReading.{have_diamond}
use Rattle.java_parser_types.proofs.made_types.have_diamond.Given as goal

abbrev pub invariant-loop-part : goal.invariant-loop-part
invariant-loop-part l = have_diamond (pack_parts (map part_of (drop l.part-index l.parts))) ≡ have_diamond
    (pack_parts (map part_of l.parts))
