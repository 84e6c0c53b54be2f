use Rattle.std.proofs.Common.{◌≡◌, ◌++◌, map, drop}
use Rattle.java_tree.specs.View.{ty_of}
use Rattle.core_lowering_rules.specs.TreesOf.{variable_of}
use Rattle.core_lowering_rules.specs.Scopes.{all_declared}
use Rattle.core_lowering_rules.specs.Statements.{begun_all}
use Rattle.core_lowering_context.specs.Drafts.{code_of}
use Rattle.core_lowering_parts.proofs.locals.lower_variables.Given as goal

-- what was made, and then the variables that are left
abbrev pub invariant-loop-variable : goal.invariant-loop-variable
invariant-loop-variable l =
    let left = map variable_of (drop l.variable-index l.variables) in
    record {
      context : all_declared l.context (ty_of l.t) left ≡ all_declared l.initial.context (ty_of l.t)
          (map variable_of l.variables);
      code : code_of l.draft ++ begun_all l.context (ty_of l.t) left
          ≡ code_of l.initial.draft ++ begun_all l.initial.context (ty_of l.t) (map variable_of l.variables);
    }
