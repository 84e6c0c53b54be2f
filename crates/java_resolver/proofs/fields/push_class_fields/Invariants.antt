use Rattle.std.proofs.Common.{◌≡◌, ◌++◌, drop}
use Rattle.std.specs.List.{flat_map}
use Rattle.java_resolver.specs.Declarations.{class_names, member_fields}
use Rattle.java_resolver.proofs.fields.push_class_fields.Given as goal

abbrev pub invariant-loop-member : goal.invariant-loop-member
invariant-loop-member l =
    let made = member_fields (class_names l.classes) l.class in
    l.fields.items ++ flat_map made (drop l.member-index l.members) ≡
    l.fn.fields.items ++ flat_map made l.members
