-- A contract of a public call rests on this: the names that mean no class of the folder anywhere in a method: those of
-- its type parameters and of the local classes in its block (JLS 6.3, 6.4.1, 8.4.4, 14.3).
use Rattle.std.specs.Prelude.{ℕ, Bool, List, [], ◌∷◌, ◌++◌, Option, Some, None, bytes_eq, map}
use Rattle.std.specs.List.{list_any}
use Rattle.java_tree.specs.declared.methods.MethodTree.{MethodTree}
use Rattle.java_tree.specs.Trees.{Stmt, Block, Local, Run, If, IfElse, For, ForEach, Labelled, LocalClass, Empty, Row}
use Rattle.java_tree.specs.Trees.{Stmts, no_stmt, stmt_then, Pieces, no_piece, a_token, an_expr, maybe_an_expr}
use Rattle.java_tree.specs.Trees.{maybe_a_name, maybe_behind, a_condition, a_body, a_block, maybe_resources}
use Rattle.java_tree.specs.Trees.{a_catch_parameter, a_list, present, absent, some_part, a_switch, Groups, no_group}
use Rattle.java_tree.specs.Trees.{group_then, Several, no_row, row_then, pack_stmts}
use Rattle.java_tree.specs.View.{stmt_of}
use Rattle.java_resolver_parts.specs.TypeParameters.{parameter_names}

-- the names of the local classes that statements declare, at any depth; what is kept as tokens declares none
abbrev mutual
  pub classes_in : Stmt → List (List ℕ)
  classes_in (Block ss) = classes_in_all ss
  classes_in (Local l) = []
  classes_in (Run e) = []
  classes_in (If e s) = classes_in s
  classes_in (IfElse e s t) = classes_in s ++ classes_in t
  classes_in (For start condition updates s) = classes_in s
  classes_in (ForEach ms t x e s) = classes_in s
  classes_in (Labelled x s) = classes_in s
  classes_in (LocalClass x ts) = x ∷ []
  classes_in Empty = []
  classes_in (Row word ps) = classes_in_pieces ps

  pub classes_in_all : Stmts → List (List ℕ)
  classes_in_all no_stmt = []
  classes_in_all (stmt_then s ss) = classes_in s ++ classes_in_all ss

  pub classes_in_pieces : Pieces → List (List ℕ)
  classes_in_pieces no_piece = []
  classes_in_pieces (a_token t ps) = classes_in_pieces ps
  classes_in_pieces (an_expr e ps) = classes_in_pieces ps
  classes_in_pieces (maybe_an_expr e ps) = classes_in_pieces ps
  classes_in_pieces (maybe_a_name x ps) = classes_in_pieces ps
  classes_in_pieces (maybe_behind text e ps) = classes_in_pieces ps
  classes_in_pieces (a_condition e ps) = classes_in_pieces ps
  classes_in_pieces (a_body s ps) = classes_in s ++ classes_in_pieces ps
  classes_in_pieces (a_block ss ps) = classes_in_all ss ++ classes_in_pieces ps
  classes_in_pieces (maybe_resources rs ps) = classes_in_pieces ps
  classes_in_pieces (a_catch_parameter p ps) = classes_in_pieces ps
  classes_in_pieces (a_list word more ps) = classes_in_several more ++ classes_in_pieces ps
  classes_in_pieces (present word sub ps) = classes_in_pieces sub ++ classes_in_pieces ps
  classes_in_pieces (absent word ps) = classes_in_pieces ps
  classes_in_pieces (some_part ps) = classes_in_pieces ps
  classes_in_pieces (a_switch gs ps) = classes_in_groups gs ++ classes_in_pieces ps

  pub classes_in_several : Several → List (List ℕ)
  classes_in_several no_row = []
  classes_in_several (row_then ps more) = classes_in_pieces ps ++ classes_in_several more

  pub classes_in_groups : Groups → List (List ℕ)
  classes_in_groups no_group = []
  classes_in_groups (group_then labels ss gs) = classes_in_all ss ++ classes_in_groups gs

-- those behind `finally`, where it stands
abbrev pub classes_in_last : Option Stmts → List (List ℕ)
classes_in_last None = []
classes_in_last (Some ss) = classes_in_all ss

abbrev pub hidden_in : MethodTree → List (List ℕ)
hidden_in m = parameter_names m.type_parameters ++ classes_in_all (pack_stmts (map stmt_of m.body))

abbrev pub is_hidden : (hidden : List (List ℕ)) → (name : List ℕ) → Bool
is_hidden hidden name = list_any (λ (h : List ℕ). bytes_eq h name) hidden

-- where there may be some
abbrev pub hidden_by : Option (List (List ℕ)) → List (List ℕ)
hidden_by None = []
hidden_by (Some names) = names
