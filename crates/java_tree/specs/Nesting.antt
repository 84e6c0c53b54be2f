-- A contract of a public call rests on this: the nesting of a tree, its depth, where each statement, expression,
-- type and array initialiser counts one.
use Rattle.std.specs.Prelude.{ℕ, suc, max, List, [], ◌∷◌, Option, Some, None}
use Rattle.java_tree.specs.Trees.{Ty, Typed, Base, Plain, Named, Parts, no_part, part_then, Part, Bare, Generic}
use Rattle.java_tree.specs.Trees.{Arguments, Angled, ArgumentList, no_argument, argument_then, Argument, Exact, Any}
use Rattle.java_tree.specs.Trees.{Extends, Super, Expr, Assign, Conditional, Binary, InstanceOf, Prefix, Cast}
use Rattle.java_tree.specs.Trees.{Postfix, Literal, This, Name, Paren, Field, Index, Call, CallOn, ClassOf, New}
use Rattle.java_tree.specs.Trees.{NewBody, Lambda, BlockLambda, Reference, TypeReference, SuperReference, PlainClass}
use Rattle.java_tree.specs.Trees.{ThisOf, LocalClass, TypeParameter, TypeParameters}
use Rattle.java_tree.specs.Trees.{NewArray, NewItems, Exprs, no_expr, expr_then, Array, Braces, Inits, no_init}
use Rattle.java_tree.specs.Trees.{init_then, Init, Value, Items, Variable, Locals, Start, Declares, Runs, Stmt}
use Rattle.java_tree.specs.Trees.{Block, Local, Run, If, IfElse, For, ForEach, Labelled, Empty, Stmts}
use Rattle.java_tree.specs.Trees.{no_stmt, stmt_then, Result, NoResult, VoidResult, TypeResult, Parameter, Method}
use Rattle.java_tree.specs.Trees.{Row, Pieces, no_piece, a_token, an_expr, maybe_an_expr, a_condition, a_body, a_block}
use Rattle.java_tree.specs.Trees.{maybe_a_name, maybe_behind, maybe_resources, a_catch_parameter, a_list, present}
use Rattle.java_tree.specs.Trees.{absent}
use Rattle.java_tree.specs.Trees.{some_part, a_switch, Several, no_row, row_then, Groups, no_group, group_then}
use Rattle.java_tree.specs.Trees.{Label, Case, Default, Resource, Resources, CatchParameter}

-- the largest over a list, 0 of none
abbrev pub most_over : {A : Type 0} → (A → ℕ) → List A → ℕ
most_over nesting [] = 0
most_over nesting (x ∷ xs) = max (nesting x) (most_over nesting xs)

abbrev mutual
  -- a type argument stands inside its type; a `?` counts nothing
  pub ty_nesting : Ty → ℕ
  ty_nesting (Typed base arrays) = suc (base_nesting base)

  pub base_nesting : Base → ℕ
  base_nesting (Plain text) = 0
  base_nesting (Named ps) = parts_nesting ps

  pub parts_nesting : Parts → ℕ
  parts_nesting no_part = 0
  parts_nesting (part_then p ps) = max (part_nesting p) (parts_nesting ps)

  pub part_nesting : Part → ℕ
  part_nesting (Bare x) = 0
  part_nesting (Generic x a) = angled_nesting a

  pub angled_nesting : Arguments → ℕ
  angled_nesting (Angled list glued) = arguments_nesting list

  pub arguments_nesting : ArgumentList → ℕ
  arguments_nesting no_argument = 0
  arguments_nesting (argument_then a others) = max (argument_nesting a) (arguments_nesting others)

  pub argument_nesting : Argument → ℕ
  argument_nesting (Exact t) = ty_nesting t
  argument_nesting Any = 0
  argument_nesting (Extends t) = ty_nesting t
  argument_nesting (Super t) = ty_nesting t

abbrev pub maybe_angled_nesting : Option Arguments → ℕ
maybe_angled_nesting None = 0
maybe_angled_nesting (Some a) = angled_nesting a

abbrev mutual
  -- tokens count nothing
  pub expr_nesting : Expr → ℕ
  expr_nesting (Assign a op b) = suc (max (expr_nesting a) (expr_nesting b))
  expr_nesting (Conditional a b c) = suc (max (expr_nesting a) (max (expr_nesting b) (expr_nesting c)))
  expr_nesting (Binary a op b) = suc (max (expr_nesting a) (expr_nesting b))
  expr_nesting (InstanceOf a t) = suc (max (expr_nesting a) (ty_nesting t))
  expr_nesting (Prefix op a) = suc (expr_nesting a)
  expr_nesting (Cast ts a) = suc (max (most_over ty_nesting ts) (expr_nesting a))
  expr_nesting (Postfix a op) = suc (expr_nesting a)
  expr_nesting (Literal k text) = 1
  expr_nesting This = 1
  expr_nesting (Name x) = 1
  expr_nesting (Paren a) = suc (expr_nesting a)
  expr_nesting (Field a x) = suc (expr_nesting a)
  expr_nesting (Index a i) = suc (max (expr_nesting a) (expr_nesting i))
  expr_nesting (Call x all) = suc (exprs_nesting all)
  expr_nesting (CallOn a types x all) =
      suc (max (expr_nesting a) (max (maybe_angled_nesting types) (exprs_nesting all)))
  expr_nesting (ClassOf xs) = 1
  expr_nesting (New t all) = suc (max (ty_nesting t) (exprs_nesting all))
  expr_nesting (NewArray t lengths n) = suc (max (ty_nesting t) (exprs_nesting lengths))
  expr_nesting (NewItems t n items) = suc (max (ty_nesting t) (array_nesting items))
  expr_nesting (NewBody t all body) = suc (max (ty_nesting t) (exprs_nesting all))
  expr_nesting (Lambda ps a) = suc (expr_nesting a)
  expr_nesting (BlockLambda ps block) = 1
  expr_nesting (Reference a types x) = suc (max (expr_nesting a) (maybe_angled_nesting types))
  expr_nesting (TypeReference t types x) = suc (max (ty_nesting t) (maybe_angled_nesting types))
  expr_nesting (SuperReference types x) = suc (maybe_angled_nesting types)
  expr_nesting (PlainClass t) = 1
  expr_nesting (ThisOf xs) = 1

  pub exprs_nesting : Exprs → ℕ
  exprs_nesting no_expr = 0
  exprs_nesting (expr_then e es) = max (expr_nesting e) (exprs_nesting es)

  pub array_nesting : Array → ℕ
  array_nesting (Braces items last_comma) = suc (inits_nesting items)

  pub inits_nesting : Inits → ℕ
  inits_nesting no_init = 0
  inits_nesting (init_then i is) = max (init_nesting i) (inits_nesting is)

  pub init_nesting : Init → ℕ
  init_nesting (Value e) = expr_nesting e
  init_nesting (Items items) = array_nesting items

abbrev pub maybe_expr_nesting : Option Expr → ℕ
maybe_expr_nesting None = 0
maybe_expr_nesting (Some e) = expr_nesting e

abbrev pub maybe_init_nesting : Option Init → ℕ
maybe_init_nesting None = 0
maybe_init_nesting (Some i) = init_nesting i

abbrev pub variable_nesting : Variable → ℕ
variable_nesting v = maybe_init_nesting v.initialiser

-- a declaration counts where it is a statement, and not in the head of a `for`
abbrev pub locals_nesting : Locals → ℕ
locals_nesting l = max (ty_nesting l.kind) (most_over variable_nesting l.variables)

abbrev pub start_nesting : Start → ℕ
start_nesting (Declares l) = locals_nesting l
start_nesting (Runs all) = exprs_nesting all

abbrev pub resource_nesting : Resource → ℕ
resource_nesting r = max (ty_nesting r.kind) (expr_nesting r.value)

abbrev pub maybe_resources_nesting : Option Resources → ℕ
maybe_resources_nesting None = 0
maybe_resources_nesting (Some rs) = most_over resource_nesting rs.items

abbrev pub catch_parameter_nesting : CatchParameter → ℕ
catch_parameter_nesting c = most_over ty_nesting c.types

abbrev pub label_nesting : Label → ℕ
label_nesting (Case e) = expr_nesting e
label_nesting Default = 0

abbrev mutual
  pub stmt_nesting : Stmt → ℕ
  stmt_nesting (Block ss) = suc (stmts_nesting ss)
  stmt_nesting (Local l) = suc (locals_nesting l)
  stmt_nesting (Run e) = suc (expr_nesting e)
  stmt_nesting (If e s) = suc (max (expr_nesting e) (stmt_nesting s))
  stmt_nesting (IfElse e s t) = suc (max (expr_nesting e) (max (stmt_nesting s) (stmt_nesting t)))
  stmt_nesting (For start condition updates s) =
      suc (max (start_nesting start) (max (maybe_expr_nesting condition) (max (exprs_nesting updates)
      (stmt_nesting s))))
  stmt_nesting (ForEach ms t x e s) = suc (max (ty_nesting t) (max (expr_nesting e) (stmt_nesting s)))
  stmt_nesting (Labelled x s) = suc (stmt_nesting s)
  stmt_nesting (LocalClass x ts) = 1
  stmt_nesting Empty = 1
  stmt_nesting (Row word ps) = suc (pieces_nesting ps)

  pub stmts_nesting : Stmts → ℕ
  stmts_nesting no_stmt = 0
  stmts_nesting (stmt_then s ss) = max (stmt_nesting s) (stmts_nesting ss)

  -- a block is a statement of its own; resources, clauses and groups are none
  pub pieces_nesting : Pieces → ℕ
  pieces_nesting no_piece = 0
  pieces_nesting (a_token t ps) = pieces_nesting ps
  pieces_nesting (an_expr e ps) = max (expr_nesting e) (pieces_nesting ps)
  pieces_nesting (maybe_an_expr e ps) = max (maybe_expr_nesting e) (pieces_nesting ps)
  pieces_nesting (a_condition e ps) = max (expr_nesting e) (pieces_nesting ps)
  pieces_nesting (a_body s ps) = max (stmt_nesting s) (pieces_nesting ps)
  pieces_nesting (a_block ss ps) = max (suc (stmts_nesting ss)) (pieces_nesting ps)
  pieces_nesting (maybe_a_name x ps) = pieces_nesting ps
  pieces_nesting (maybe_behind text e ps) = max (maybe_expr_nesting e) (pieces_nesting ps)
  pieces_nesting (maybe_resources rs ps) = max (maybe_resources_nesting rs) (pieces_nesting ps)
  pieces_nesting (a_catch_parameter c ps) = max (catch_parameter_nesting c) (pieces_nesting ps)
  pieces_nesting (a_list word more ps) = max (several_nesting more) (pieces_nesting ps)
  pieces_nesting (present word sub ps) = max (pieces_nesting sub) (pieces_nesting ps)
  pieces_nesting (absent word ps) = pieces_nesting ps
  pieces_nesting (some_part ps) = pieces_nesting ps
  pieces_nesting (a_switch gs ps) = max (groups_nesting gs) (pieces_nesting ps)

  pub groups_nesting : Groups → ℕ
  groups_nesting no_group = 0
  groups_nesting (group_then labels ss gs) =
      max (most_over label_nesting labels) (max (stmts_nesting ss) (groups_nesting gs))

  pub several_nesting : Several → ℕ
  several_nesting no_row = 0
  several_nesting (row_then ps more) = max (pieces_nesting ps) (several_nesting more)

-- a block is a statement, also as the body of a method
abbrev pub block_nesting : Stmts → ℕ
block_nesting ss = suc (stmts_nesting ss)

abbrev pub result_nesting : Result → ℕ
result_nesting NoResult = 0
result_nesting VoidResult = 0
result_nesting (TypeResult t) = ty_nesting t

abbrev pub parameter_nesting : Parameter → ℕ
parameter_nesting p = ty_nesting p.kind

abbrev pub type_parameter_nesting : TypeParameter → ℕ
type_parameter_nesting p = most_over ty_nesting p.bounds

abbrev pub type_parameters_nesting : Option TypeParameters → ℕ
type_parameters_nesting None = 0
type_parameters_nesting (Some ps) = most_over type_parameter_nesting ps.items

abbrev pub method_nesting : Method → ℕ
method_nesting m =
    max (type_parameters_nesting m.type_parameters) (max (result_nesting m.result)
    (max (most_over parameter_nesting m.parameters) (max (most_over ty_nesting m.throws) (block_nesting m.body))))
