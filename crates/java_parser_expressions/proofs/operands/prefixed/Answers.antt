use Rattle.std.proofs.Common.{rules, ◌≡◌, ℕ, Bool, true, false, not, ◌||◌, if◌then◌else◌, List, Some, None}
use Rattle.std.proofs.Common.{map, ap}
use Rattle.std.proofs.lemmas.Option.{same_Some}
use Rattle.java_tree.specs.declared.words.Spelled.{Spelled}
use Rattle.java_tree.specs.declared.expressions.Expression.TheVariants as expression
use Rattle.java_tree.specs.declared.expressions.Expression.TheFolds.{the_lemmas}
use Rattle.java_tree.specs.Formed.{is_variable}
use Rattle.java_tree.specs.Operators.{is_step}
use Rattle.java_tree.specs.Trees.{Expr, Prefix}
use Rattle.java_tree.specs.View.{expr_of}
use Rattle.java_parser_types.specs.Tokens.{spelled}
use Rattle.java_parser_types.proofs.ReadLoops.{ends_give}
use Rattle.java_parser_expressions.proofs.operands.prefixed.Goals as goal

abbrev before : Expr → List Spelled → (operator : List ℕ) → Expr × List Spelled
before e ts operator = (Prefix operator e, ts)

chosen : (fits : Bool) (operator text : List ℕ) (e : Expr) (ts : List Spelled)
    → (if fits then Some operator else None) ≡ Some text
    → (if fits then Some (before e ts operator) else None) ≡ Some (before e ts text)
chosen true operator text e ts h = ap (λ (t : List ℕ). Some (before e ts t)) (same_Some _ _ h)
chosen false operator text e ts h = absurd cc

pub returns-clause-gives : goal.returns-clause-gives
returns-clause-gives c =
    let operator = c.args.operator.now in
    let text = c.in_ok-text.text in
    let part = c.args.part.tree in
    let tree : expr_of (expression.Prefix text part) ≡ Prefix text (expr_of part.value) = search (rules, the_lemmas) in
    let same : c.deref.result.now ≡ part.value = search rules in
    ends_give _ c.before-2.result _ _ (chosen (not (is_step operator) || is_variable (expr_of part.value)) operator
    text (expr_of part.value) (map spelled c.args.tokens.now) (rw same at c.in_ok-text.ensures)) (rw tree at
    c.before-2.ensures.gives)
