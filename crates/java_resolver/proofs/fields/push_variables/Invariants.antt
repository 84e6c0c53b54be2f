use Rattle.std.proofs.Common.{◌≡◌, ◌++◌, map, drop}
use Rattle.java_resolver.specs.Declarations.{class_names, field_info}
use Rattle.java_resolver.proofs.fields.push_variables.Given as goal

abbrev pub invariant-loop-variable : goal.invariant-loop-variable
invariant-loop-variable l =
    let made = field_info (class_names l.classes) l.class l.field in
    l.fields.items ++ map made (drop l.variable-index l.field.variables) ≡
    l.fn.fields.items ++ map made l.field.variables
