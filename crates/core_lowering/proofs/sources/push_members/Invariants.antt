use Rattle.std.proofs.Common.{◌≡◌, ◌++◌, map, drop}
use Rattle.std.specs.List.{flat_map}
use Rattle.core_lowering.specs.Parts.{part_of, member_parts}
use Rattle.core_lowering.proofs.sources.push_members.Given as goal

abbrev pub invariant-loop-member : goal.invariant-loop-member
invariant-loop-member l =
    map part_of l.parts.items ++ flat_map (member_parts l.members) (drop l.member-index l.members) ≡
    map part_of l.fn.parts.items ++ flat_map (member_parts l.members) l.members
