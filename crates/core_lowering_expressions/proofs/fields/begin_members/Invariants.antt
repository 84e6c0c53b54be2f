use Rattle.std.proofs.Common.{◌≡◌, ◌++◌, drop}
use Rattle.std.specs.List.{flat_map}
use Rattle.core_lowering_rules.specs.Methods.{member_begun}
use Rattle.core_lowering_context.specs.Drafts.{code_of}
use Rattle.core_lowering_expressions.proofs.fields.begin_members.Given as goal

-- what was made, and then the members that are left
abbrev pub invariant-loop-member : goal.invariant-loop-member
invariant-loop-member l =
    code_of l.draft ++ flat_map (member_begun l.context) (drop l.member-index l.members)
    ≡ code_of l.initial.draft ++ flat_map (member_begun l.context) l.members
