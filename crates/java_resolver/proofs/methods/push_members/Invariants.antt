use Rattle.std.proofs.Common.{◌≡◌, ◌++◌, drop}
use Rattle.std.specs.List.{flat_map}
use Rattle.java_resolver.specs.Declarations.{class_names, member_methods}
use Rattle.java_resolver.proofs.methods.push_members.Given as goal

abbrev pub invariant-loop-member : goal.invariant-loop-member
invariant-loop-member l =
    let made = member_methods (class_names l.classes) l.class in
    l.methods.items ++ flat_map made (drop l.member-index l.members) ≡
    l.fn.methods.items ++ flat_map made l.members
