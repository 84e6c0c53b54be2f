use Rattle.std.proofs.Common.{◌≡◌, ◌++◌, drop}
use Rattle.std.specs.List.{flat_map}
use Rattle.java_tree.specs.declared.methods.FieldVariable.{FieldVariable}
use Rattle.core_lowering_rules.specs.Methods.{field_begun}
use Rattle.core_lowering_context.specs.Drafts.{code_of}
use Rattle.core_lowering_expressions.proofs.fields.begin_variables.Given as goal

-- what was made, and then the fields that are left
abbrev pub invariant-loop-field : goal.invariant-loop-field
invariant-loop-field l =
    code_of l.draft ++ flat_map (λ (v : FieldVariable). field_begun l.context v.name v.initialiser)
    (drop l.field-index l.fields)
    ≡ code_of l.initial.draft ++ flat_map (λ (v : FieldVariable). field_begun l.context v.name v.initialiser) l.fields
