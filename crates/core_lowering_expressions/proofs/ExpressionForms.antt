-- What the forms of an expression that are stored to are seen as, and a value that an element begins with.
use Rattle.std.proofs.Common.{◌≡◌, Box, Global, sym, ap, ◌∙◌, rules}
use Rattle.java_tree.specs.declared.words.Ident.{Ident}
use Rattle.java_tree.specs.declared.expressions.Expression.{Expression}
use Rattle.java_tree.specs.declared.expressions.Expression as form
use Rattle.java_tree.specs.declared.expressions.Initialiser.{Initialiser}
use Rattle.java_tree.specs.declared.expressions.Initialiser as start
use Rattle.java_tree.specs.declared.expressions.Expression.TheFolds.{the_lemmas}
use Rattle.core_lowering_rules.specs.Trees as tree
use Rattle.core_lowering_rules.specs.TreesOf.{expr_of, init_of}

name_form : (x : Ident) → expr_of (form.Name x) ≡ tree.Read (tree.Named x)
name_form x = search (rules, the_lemmas)

pub is_name_of : (e : Expression) (x : Ident) → e ≡ form.Name x → expr_of e ≡ tree.Read (tree.Named x)
is_name_of e x is = ap expr_of is ∙ name_form x

field_form : (a : Box Expression Global) (x : Ident) →
    expr_of (form.Field a x) ≡ tree.Read (tree.Selected (expr_of a.value) x)
field_form a x = search (rules, the_lemmas)

pub is_field : (e : Expression) (a : Box Expression Global) (x : Ident) (b : Expression) → e ≡ form.Field a x →
    b ≡ a.value → expr_of e ≡ tree.Read (tree.Selected (expr_of b) x)
is_field e a x b is same =
    ap expr_of is ∙ field_form a x ∙ ap (λ (c : Expression). tree.Read (tree.Selected (expr_of c) x)) (sym same)

index_form : (a i : Box Expression Global) →
    expr_of (form.Index a i) ≡ tree.Read (tree.Element (expr_of a.value) (expr_of i.value))
index_form a i = search (rules, the_lemmas)

pub is_index : (e : Expression) (a i : Box Expression Global) (b j : Expression) → e ≡ form.Index a i →
    b ≡ a.value → j ≡ i.value → expr_of e ≡ tree.Read (tree.Element (expr_of b) (expr_of j))
is_index e a i b j is same_a same_i =
    ap expr_of is
    ∙ index_form a i
    ∙ (λ k. tree.Read (tree.Element (expr_of (sym same_a k)) (expr_of (sym same_i k))))

value_form : (e : Expression) → init_of (start.Value e) ≡ tree.Value (expr_of e)
value_form e = search (rules, the_lemmas)

pub is_value : (v : Initialiser) (e : Expression) → v ≡ start.Value e → init_of v ≡ tree.Value (expr_of e)
is_value v e is = ap init_of is ∙ value_form e
