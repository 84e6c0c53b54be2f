-- A contract of a public call rests on this: small parts of `switch` and `try` for worked trees (JLS 14.11, 14.20).
use Rattle.std.specs.Prelude.{ℕ, Bool, false, List, [], ◌∷◌, Option, Some, None, codes}
use Rattle.java_tree.specs.Examples.{a, class_a, final_where}
use Rattle.java_tree.specs.Trees.{Ty, Expr, Stmt, Empty, Stmts, no_stmt, stmt_then, Pieces, Several, no_row, row_then}
use Rattle.java_tree.specs.Trees.{Groups, no_group, group_then, Label, Resource, Resources, CatchParameter}
use Rattle.java_tree.specs.Rows.{Switch, Try}
use Rattle.java_tree.specs.View.{Catch, Finally}

abbrev pub one_stmt : Stmt → Stmts
one_stmt s = stmt_then s no_stmt

-- one group
abbrev pub only_group : List Label → Stmts → Groups
only_group labels ss = group_then labels ss no_group

-- `switch (a)` with one group of this label and `;`
abbrev pub switch_at : Label → Stmt
switch_at label = Switch a (only_group (label ∷ []) (one_stmt Empty))

abbrev pub resource : Bool → Ty → List ℕ → Expr → Resource
resource is_final kind name value =
    record { modifiers = final_where is_final; kind = kind; name = name; value = value }

-- whether a `;` stands behind the last one
abbrev pub resources : List Resource → Bool → Option Resources
resources items last = Some (record { items = items; last = last })

-- `(T x = e)`
abbrev pub one_resource : Ty → Expr → Option Resources
one_resource kind value = resources (resource false kind (codes "x") value ∷ []) false

abbrev pub caught : Bool → List Ty → CatchParameter
caught is_final types = record { modifiers = final_where is_final; types = types; name = codes "x" }

-- `catch (T | U x) { .. }`
abbrev pub one_catch : List Ty → Stmts → Several
one_catch types ss = row_then (Catch (caught false types) ss) no_row

-- `catch (A x) { }`
abbrev pub catch_a : Several
catch_a = one_catch (class_a ∷ []) no_stmt

-- `finally { .. }`
abbrev pub finally : Stmts → Option Pieces
finally ss = Some (Finally ss)

-- `try { } ..` with these clauses alone
abbrev pub try_with : Several → Stmt
try_with clauses = Try None no_stmt clauses None
