use Rattle.std.proofs.Common.{◌≡◌, ◌++◌, map, drop}
use Rattle.core_lowering_rules.specs.Trees.{pack_exprs}
use Rattle.core_lowering_rules.specs.TreesOf.{expr_of}
use Rattle.core_lowering_rules.specs.Statements.{run_all}
use Rattle.core_lowering_context.specs.Drafts.{code_of}
use Rattle.core_lowering_expressions.proofs.parts.lower_run_all.Given as goal

-- what was made, and then the code of the expressions that are left
abbrev pub invariant-loop-e : goal.invariant-loop-e
invariant-loop-e l =
    code_of l.draft ++ run_all l.context (pack_exprs (map expr_of (drop l.e-index l.all)))
    ≡ code_of l.initial.draft ++ run_all l.context (pack_exprs (map expr_of l.all))
