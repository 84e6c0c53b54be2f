use Rattle.std.proofs.Common.{◌≡◌, ℕ, suc, true, false, List, Some, None, map, ap, sym, refl, ◌∙◌}
use Rattle.std.proofs.lemmas.Option.{same_Some}
use Rattle.std.specs.Prelude.{nat_le}
use Rattle.java_tree.specs.declared.words.Spelled.{Spelled}
use Rattle.java_tree.specs.Trees.{Expr}
use Rattle.java_tree.specs.Nesting.{expr_nesting}
use Rattle.java_tree.specs.View.{expr_of}
use Rattle.java_parser_grammar.specs.ExpressionReading.{Next, grown}
use Rattle.java_parser_types.specs.Tokens.{spelled}
use Rattle.java_parser_expressions.proofs.turns.grown.Goals as goal

fits : (n m : ℕ) (e f : Expr) (ts : List Spelled) → e ≡ f → m ≡ expr_nesting e → nat_le m (suc n) ≡ true
    → grown n e ts ≡ Some (Next f ts)
fits n m e f ts same measured less = rw (sym measured, less, same) refl

too_deep : (n m : ℕ) (e : Expr) (ts : List Spelled) → m ≡ expr_nesting e → nat_le m (suc n) ≡ false
    → grown n e ts ≡ None
too_deep n m e ts measured more = rw (sym measured, more) refl

pub returns-then-is_within-clause-gives : goal.returns-then-is_within-clause-gives
returns-then-is_within-clause-gives c =
    let larger = c.in_ok-larger.larger in
    fits c.args.limit larger.nesting (expr_of c.args.tree) (expr_of larger.tree.value) (map spelled c.args.tokens.now)
    (ap expr_of (same_Some _ _ c.in_ok-larger.ensures.gives)) (c.in_ok-larger.ensures.small ∙ c.requires.measured)
    (sym c.is_within.ensures ∙ c.if-is_within.true)

pub returns-else-is_within-clause-gives : goal.returns-else-is_within-clause-gives
returns-else-is_within-clause-gives c =
    too_deep c.args.limit c.in_ok-larger.larger.nesting (expr_of c.args.tree) (map spelled c.args.tokens.now)
    (c.in_ok-larger.ensures.small ∙ c.requires.measured) (sym c.is_within.ensures ∙ c.if-is_within.false)
