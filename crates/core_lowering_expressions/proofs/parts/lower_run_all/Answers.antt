use Rattle.std.proofs.Common.{List, map, refl}
use Rattle.java_tree.specs.declared.expressions.Expression.{Expression}
use Rattle.core_lowering_rules.specs.Context.{Context, Code}
use Rattle.core_lowering_rules.specs.Trees.{pack_exprs}
use Rattle.core_lowering_rules.specs.TreesOf.{expr_of}
use Rattle.core_lowering_rules.specs.Statements.{run, run_all}
use Rattle.core_lowering_context.specs.Drafts.{code_of}
use Rattle.racer_base.proofs.Lists.{ended, turn}
use Rattle.core_lowering_expressions.proofs.parts.lower_run_all.Goals as goal

abbrev runs_of : Context → List Expression → Code
runs_of context all = run_all context (pack_exprs (map expr_of all))

pub loop-e-preserved : goal.loop-e-preserved
loop-e-preserved c =
    let context = c.args.context.now in
    turn (runs_of context) (λ (e : Expression). run context (expr_of e)) c.args.all.now c.loop-e.e-index _
    (code_of c.loop-e.draft) _ _ (λ e es. refl) c.loop-e-test.true c.e-item.is c.in_ok-lower_run.ensures
    c.loop-e.invariant

pub returns : goal.returns
returns c =
    ended (runs_of c.args.context.now) c.args.all.now c.loop-e.e-index (code_of c.loop-e.draft) _ refl
    c.loop-e-test.false c.loop-e.invariant
