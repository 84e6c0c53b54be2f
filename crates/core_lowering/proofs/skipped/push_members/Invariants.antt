use Rattle.std.proofs.Common.{◌≡◌, ◌++◌, drop}
use Rattle.std.specs.List.{flat_map}
use Rattle.core_lowering_rules.specs.Programs.{skipped_member}
use Rattle.core_lowering.proofs.skipped.push_members.Given as goal

abbrev pub invariant-loop-member : goal.invariant-loop-member
invariant-loop-member l =
    l.places.items ++ flat_map skipped_member (drop l.member-index l.members) ≡
    l.fn.places.items ++ flat_map skipped_member l.members
