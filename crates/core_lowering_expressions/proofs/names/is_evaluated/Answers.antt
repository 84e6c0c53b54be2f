use Rattle.std.proofs.Common.{◌≡◌, false, rules}
use Rattle.java_tree.specs.declared.expressions.Expression.TheFolds.{the_lemmas}
use Rattle.java_tree.specs.declared.expressions.Expression.{out-Expression}
use Rattle.core_lowering_expressions.proofs.OtherForms.{is_name, is-value}
use Rattle.core_lowering_expressions.proofs.names.is_evaluated.Goals as goal

pub returns-in_default : goal.returns-in_default
returns-in_default c =
    let other : is_name (out-Expression c.args.e.now) ≡ false = search (rules, the_lemmas) in
    is-value c.args.context.now c.args.e.now other
