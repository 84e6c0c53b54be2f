-- A contract of a public call rests on this: whether a call of `unlock` without arguments, or a store to a variable,
-- stands in statements, at any depth.
use Rattle.std.specs.Prelude.{ℕ, Bool, true, false, ◌&&◌, ◌||◌, List, [], ◌∷◌, Option, None, Some, bytes_eq, codes}
use Rattle.java_tree.specs.declared.words.Ident.{Ident}
use Rattle.core_lowering_rules.specs.Trees.{Expr, Prim, Unknown, Null, This, ClassOf, Read, Unary, Cast, Binary}
use Rattle.core_lowering_rules.specs.Trees.{Logical}
use Rattle.core_lowering_rules.specs.Trees.{Conditional, Assign, Combine, Count, Call, CallOn, New, NewBody, NewArray}
use Rattle.core_lowering_rules.specs.Trees.{NewItems, ThisOf, Refer, ToExpr, ToType}
use Rattle.core_lowering_rules.specs.Trees.{Paren, Access, Named, Selected, Element, NoAccess, Exprs, no_expr}
use Rattle.core_lowering_rules.specs.Trees.{expr_then}
use Rattle.core_lowering_rules.specs.Trees.{Init, Value, Items, Inits, no_init, init_then, Variable, Start, Declares}
use Rattle.core_lowering_rules.specs.Trees.{Runs}
use Rattle.core_lowering_rules.specs.Trees.{Resource, Stmt, Run, Local, If, IfElse, While, Do, For, ForEach, Sync}
use Rattle.core_lowering_rules.specs.Trees.{Return}
use Rattle.core_lowering_rules.specs.Trees.{Block, Empty, Throw, Break, Continue, Labelled, Assert, Switch, Locked, Try}
use Rattle.core_lowering_rules.specs.Trees.{Finally, Stmts, no_stmt, stmt_then, Groups, no_group, group_then, Catches}
use Rattle.core_lowering_rules.specs.Trees.{no_catch, catch_then, Condition}

-- what is sought: a call of `unlock` without arguments; an assignment, `++` or `--` whose left side is this name
pub data Sought : Type 0 where
  Unlocking : Sought
  Storing : (name : List ℕ) → Sought

abbrev pub is_unlocking : Sought → Bool
is_unlocking Unlocking = true
is_unlocking (Storing name) = false

abbrev pub is_unlock : Ident → Exprs → Bool
is_unlock x no_expr = bytes_eq x.text (codes "unlock")
is_unlock x _ = false

abbrev pub is_call_sought : Sought → Ident → Exprs → Bool
is_call_sought sought x es = is_unlocking sought && is_unlock x es

abbrev pub is_store_sought : Sought → Ident → Bool
is_store_sought Unlocking x = false
is_store_sought (Storing name) x = bytes_eq x.text name

abbrev mutual
  pub does_stand : Sought → Expr → Bool
  does_stand sought Prim = false
  does_stand sought Unknown = false
  does_stand sought Null = false
  does_stand sought This = false
  does_stand sought (ClassOf xs) = false
  does_stand sought (ThisOf xs) = false
  does_stand sought (Refer (ToExpr e)) = does_stand sought e
  does_stand sought (Refer ToType) = false
  does_stand sought (Read a) = does_stand_in sought a
  does_stand sought (Unary e) = does_stand sought e
  does_stand sought (Cast t e) = does_stand sought e
  does_stand sought (Binary a b) = does_stand sought a || does_stand sought b
  does_stand sought (Logical a b) = does_stand sought a || does_stand sought b
  does_stand sought (Conditional c a b) = does_stand sought c || does_stand sought a || does_stand sought b
  does_stand sought (Assign a b) = does_left_stand sought a || does_stand sought b
  does_stand sought (Combine a b) = does_left_stand sought a || does_stand sought b
  does_stand sought (Count a) = does_left_stand sought a
  does_stand sought (Call x es) = is_call_sought sought x es || do_exprs_stand sought es
  does_stand sought (CallOn e x es) = is_call_sought sought x es || does_stand sought e || do_exprs_stand sought es
  does_stand sought (New place t es) = do_exprs_stand sought es
  does_stand sought (NewBody place t es) = do_exprs_stand sought es
  does_stand sought (NewArray place es) = do_exprs_stand sought es
  does_stand sought (NewItems place is) = do_items_stand sought is
  does_stand sought (Paren e) = does_stand sought e

  pub does_stand_in : Sought → Access → Bool
  does_stand_in sought (Named x) = false
  does_stand_in sought (Selected e x) = does_stand sought e
  does_stand_in sought (Element e i) = does_stand sought e || does_stand sought i
  does_stand_in sought NoAccess = false

  -- on the left of an assignment
  pub does_left_stand : Sought → Access → Bool
  does_left_stand sought (Named x) = is_store_sought sought x
  does_left_stand sought (Selected e x) = does_stand sought e
  does_left_stand sought (Element e i) = does_stand sought e || does_stand sought i
  does_left_stand sought NoAccess = false

  pub do_exprs_stand : Sought → Exprs → Bool
  do_exprs_stand sought no_expr = false
  do_exprs_stand sought (expr_then e es) = does_stand sought e || do_exprs_stand sought es

  pub does_init_stand : Sought → Init → Bool
  does_init_stand sought (Value e) = does_stand sought e
  does_init_stand sought (Items is) = do_items_stand sought is

  pub do_items_stand : Sought → Inits → Bool
  do_items_stand sought no_init = false
  do_items_stand sought (init_then i is) = does_init_stand sought i || do_items_stand sought is

abbrev pub does_some_stand : Sought → Option Expr → Bool
does_some_stand sought None = false
does_some_stand sought (Some e) = does_stand sought e

abbrev pub does_begin_stand : Sought → Option Init → Bool
does_begin_stand sought None = false
does_begin_stand sought (Some i) = does_init_stand sought i

abbrev pub do_variables_stand : Sought → List Variable → Bool
do_variables_stand sought [] = false
do_variables_stand sought (v ∷ vs) = does_begin_stand sought v.initialiser || do_variables_stand sought vs

abbrev pub does_start_stand : Sought → Start → Bool
does_start_stand sought (Declares t vs) = do_variables_stand sought vs
does_start_stand sought (Runs es) = do_exprs_stand sought es

abbrev pub does_condition_stand : Sought → Option Condition → Bool
does_condition_stand sought None = false
does_condition_stand sought (Some c) = does_stand sought c.on

abbrev pub do_resources_stand : Sought → List Resource → Bool
do_resources_stand sought [] = false
do_resources_stand sought (r ∷ rs) = does_stand sought r.value || do_resources_stand sought rs

abbrev pub do_labels_stand : Sought → List (Option Expr) → Bool
do_labels_stand sought [] = false
do_labels_stand sought (label ∷ labels) = does_some_stand sought label || do_labels_stand sought labels

abbrev mutual
  pub does_stmt_stand : Sought → Stmt → Bool
  does_stmt_stand sought (Run e) = does_stand sought e
  does_stmt_stand sought (Local t vs) = do_variables_stand sought vs
  does_stmt_stand sought (If e s) = does_stand sought e || does_stmt_stand sought s
  does_stmt_stand sought (IfElse e s t) = does_stand sought e || does_stmt_stand sought s || does_stmt_stand sought t
  does_stmt_stand sought (While c s) = does_stand sought c.on || does_stmt_stand sought s
  does_stmt_stand sought (Do s c) = does_stmt_stand sought s || does_stand sought c.on
  does_stmt_stand sought (For i c updates s) =
      does_start_stand sought i || does_condition_stand sought c || do_exprs_stand sought updates
      || does_stmt_stand sought s
  does_stmt_stand sought (ForEach t x e s) = does_stand sought e || does_stmt_stand sought s
  does_stmt_stand sought (Sync place e ss) = does_stand sought e || do_any_stand sought ss
  does_stmt_stand sought (Return e) = does_some_stand sought e
  does_stmt_stand sought (Block ss) = do_any_stand sought ss
  does_stmt_stand sought Empty = false
  does_stmt_stand sought (Throw place e) = does_stand sought e
  does_stmt_stand sought (Break x) = false
  does_stmt_stand sought (Continue x) = false
  does_stmt_stand sought (Labelled x s) = does_stmt_stand sought s
  does_stmt_stand sought (Assert e told) = does_stand sought e || does_some_stand sought told
  does_stmt_stand sought (Switch e gs) = does_stand sought e || do_groups_stand sought gs
  does_stmt_stand sought (Locked place e ss catches) =
      is_unlocking sought || (does_stand sought e || do_any_stand sought ss || do_clauses_stand sought catches)
  does_stmt_stand sought (Try rs ss catches) =
      do_resources_stand sought rs || do_any_stand sought ss || do_clauses_stand sought catches
  does_stmt_stand sought (Finally rs ss catches finally) =
      do_resources_stand sought rs || do_any_stand sought ss || do_clauses_stand sought catches
      || do_any_stand sought finally

  pub do_any_stand : Sought → Stmts → Bool
  do_any_stand sought no_stmt = false
  do_any_stand sought (stmt_then s ss) = does_stmt_stand sought s || do_any_stand sought ss

  pub do_groups_stand : Sought → Groups → Bool
  do_groups_stand sought no_group = false
  do_groups_stand sought (group_then labels ss gs) =
      do_labels_stand sought labels || do_any_stand sought ss || do_groups_stand sought gs

  pub do_clauses_stand : Sought → Catches → Bool
  do_clauses_stand sought no_catch = false
  do_clauses_stand sought (catch_then x ss catches) = do_any_stand sought ss || do_clauses_stand sought catches
