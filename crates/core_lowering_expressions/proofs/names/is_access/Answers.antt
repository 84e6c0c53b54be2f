use Rattle.std.proofs.Common.{◌≡◌, false, ap, rules}
use Rattle.java_tree.specs.declared.expressions.Expression.TheFolds.{the_lemmas}
use Rattle.java_tree.specs.declared.expressions.Expression.{out-Expression}
use Rattle.core_lowering_expressions.specs.Containers.{is_formed}
use Rattle.core_lowering_expressions.proofs.OtherForms.{is_access, no-access}
use Rattle.core_lowering_expressions.proofs.names.is_access.Goals as goal

pub returns-in_default : goal.returns-in_default
returns-in_default c =
    let other : is_access (out-Expression c.args.e.now) ≡ false = search (rules, the_lemmas) in
    ap is_formed (no-access c.args.e.now other)
