-- No public contract rests on this: trees of texts, with each name at one place and each keyword at another.
use Rattle.std.specs.Prelude.{ℕ, Bool, false, List, [], ◌∷◌, Option, None, Some, map, option_map, codes, bytes_eq}
use Rattle.std.specs.Prelude.{if◌then◌else◌}
use Rattle.racer_base.specs.declared.ids.Place.{Place}
use Rattle.java_tree.specs.declared.words.Ident.{Ident}
use Rattle.java_tree.specs.Trees as plain
use Rattle.java_tree.specs.Trees.{no_expr, expr_then, Braces, no_init, init_then, Value, Items, Declares, Runs}
use Rattle.java_tree.specs.Trees.{no_stmt, stmt_then}
use Rattle.java_tree.specs.Examples.{tokens_of}
use Rattle.java_parser_grammar.specs.ExpressionReading.{read_at}
use Rattle.java_parser_grammar.specs.MethodReading.{if_ended}
use Rattle.java_parser_grammar.specs.StatementReading.{stmt_at}
use Rattle.java_parser_grammar.specs.Taking.{◌>>=◌}
use Rattle.java_parser_grammar.specs.JavaReaders.{method_readers}
use Rattle.core_lowering_rules.specs.Trees as tree
use Rattle.core_lowering_rules.specs.TreesOf.{access_of, literal, assignment, binary, prefix, tried}

abbrev pub at : ℕ → Place
at column = record { file = record { 0 = 0 }; line = 1; column = column }

abbrev pub method_place : Place
method_place = at 1

abbrev pub name_place : Place
name_place = at 2

-- of `new`, of `synchronized` and of `throw`
abbrev pub word_place : Place
word_place = at 3

abbrev pub ident : List ℕ → Ident
ident name = record { text = name; place = name_place }

abbrev pub first_type : List plain.Ty → plain.Ty
first_type [] = plain.Typed (plain.Named plain.no_part) 0
first_type (t ∷ ts) = t

abbrev mutual
  pub expr : plain.Expr → tree.Expr
  expr (plain.Assign a op b) = assignment op (access_of (expr a)) (expr b)
  expr (plain.Conditional a b c) = tree.Conditional (expr a) (expr b) (expr c)
  expr (plain.Binary a op b) = binary op (expr a) (expr b)
  expr (plain.InstanceOf a t) = tree.Unary (expr a)
  expr (plain.Prefix op a) = prefix op (expr a)
  expr (plain.Cast ts a) = tree.Cast (first_type ts) (expr a)
  expr (plain.Postfix a op) = tree.Count (access_of (expr a))
  expr (plain.Literal k text) = literal k text
  expr plain.This = tree.This
  expr (plain.Name x) = tree.Read (tree.Named (ident x))
  expr (plain.Paren a) = tree.Paren (expr a)
  expr (plain.Field a x) = tree.Read (tree.Selected (expr a) (ident x))
  expr (plain.Index a i) = tree.Read (tree.Element (expr a) (expr i))
  expr (plain.Call x all) = tree.Call (ident x) (exprs all)
  expr (plain.CallOn a types x all) = tree.CallOn (expr a) (ident x) (exprs all)
  expr (plain.ClassOf xs) = tree.ClassOf (map ident xs)
  expr (plain.New t all) = tree.New word_place t (exprs all)
  expr (plain.NewArray t lengths n) = tree.NewArray word_place (exprs lengths)
  expr (plain.NewItems t n items) = tree.NewItems word_place (array items)
  expr (plain.NewBody t all body) = tree.NewBody word_place t (exprs all)
  expr (plain.Lambda ps a) = tree.Unknown
  expr (plain.BlockLambda ps block) = tree.Unknown
  expr (plain.Reference a types x) = tree.Refer (tree.ToExpr (expr a))
  expr (plain.TypeReference t types x) = tree.Refer tree.ToType
  expr (plain.SuperReference types x) = tree.Refer tree.ToType
  expr (plain.PlainClass t) = tree.Unknown
  expr (plain.ThisOf xs) = tree.ThisOf (map ident xs)

  pub exprs : plain.Exprs → tree.Exprs
  exprs no_expr = tree.no_expr
  exprs (expr_then e es) = tree.expr_then (expr e) (exprs es)

  pub array : plain.Array → tree.Inits
  array (Braces items last_comma) = inits items

  pub inits : plain.Inits → tree.Inits
  inits no_init = tree.no_init
  inits (init_then i is) = tree.init_then (init i) (inits is)

  pub init : plain.Init → tree.Init
  init (Value e) = tree.Value (expr e)
  init (Items items) = tree.Items (array items)

abbrev pub variable : plain.Variable → tree.Variable
variable v = record { name = ident v.name; arrays = v.arrays; initialiser = option_map init v.initialiser }

abbrev pub start : plain.Start → tree.Start
start (Declares l) = tree.Declares l.kind (map variable l.variables)
start (Runs es) = tree.Runs (exprs es)

abbrev pub is_true : plain.Expr → Bool
is_true (plain.Literal k text) = bytes_eq text (codes "true")
is_true _ = false

abbrev pub condition : plain.Expr → tree.Condition
condition e = record { on = expr e; is_true = is_true e }

abbrev pub jump : Bool → Option Ident → tree.Stmt
jump is_break x = if is_break then tree.Break x else tree.Continue x

abbrev pub resource : plain.Resource → tree.Resource
resource r = record { kind = r.kind; name = ident r.name; value = expr r.value }

abbrev pub resources : Option plain.Resources → List tree.Resource
resources None = []
resources (Some rs) = map resource rs.items

abbrev pub label : plain.Label → Option tree.Expr
label (plain.Case e) = Some (expr e)
label plain.Default = None

abbrev mutual
  pub stmt : plain.Stmt → tree.Stmt
  stmt (plain.Block ss) = tree.Block (stmts ss)
  stmt (plain.Local l) = tree.Local l.kind (map variable l.variables)
  stmt (plain.Run e) = tree.Run (expr e)
  stmt (plain.If e s) = tree.If (expr e) (stmt s)
  stmt (plain.IfElse e s t) = tree.IfElse (expr e) (stmt s) (stmt t)
  stmt (plain.For i c updates s) = tree.For (start i) (option_map condition c) (exprs updates) (stmt s)
  stmt (plain.ForEach ms t x e s) = tree.ForEach t (ident x) (expr e) (stmt s)
  stmt (plain.Labelled x s) = tree.Labelled (ident x) (stmt s)
  stmt (plain.LocalClass x ts) = tree.Empty
  stmt plain.Empty = tree.Empty
  -- by what stands behind the keyword: no two rows have the same, but `break` and `continue`
  stmt (plain.Row word (plain.a_condition e (plain.a_body s rest))) = tree.While (condition e) (stmt s)
  stmt (plain.Row word (plain.a_condition e (plain.a_block ss rest))) = tree.Sync word_place (expr e) (stmts ss)
  stmt (plain.Row word (plain.a_condition e (plain.a_switch gs rest))) = tree.Switch (expr e) (groups gs)
  stmt (plain.Row word (plain.maybe_an_expr e rest)) = tree.Return (option_map expr e)
  stmt (plain.Row word (plain.maybe_a_name x rest)) = jump (bytes_eq word (codes "break")) (option_map ident x)
  stmt (plain.Row word (plain.an_expr e (plain.a_token t rest))) = tree.Throw word_place (expr e)
  stmt (plain.Row word (plain.an_expr e (plain.maybe_behind text f rest))) = tree.Assert (expr e) (option_map expr f)
  stmt (plain.Row word (plain.a_body s (plain.a_token t (plain.a_condition e rest)))) = tree.Do (stmt s) (condition e)
  stmt (plain.Row word (plain.some_part (plain.maybe_resources rs (plain.a_block ss (plain.a_list catch several
      last))))) = tried (resources rs) (stmts ss) (clauses several) (last_block last)
  stmt (plain.Row word _) = tree.Empty

  pub stmts : plain.Stmts → tree.Stmts
  stmts no_stmt = tree.no_stmt
  stmts (stmt_then s ss) = tree.put_before (stmt s) (stmts ss)

  pub groups : plain.Groups → tree.Groups
  groups plain.no_group = tree.no_group
  groups (plain.group_then labels ss gs) = tree.group_then (map label labels) (stmts ss) (groups gs)

  pub clauses : plain.Several → tree.Catches
  clauses plain.no_row = tree.no_catch
  clauses (plain.row_then row more) = tree.catch_then (ident []) (clause row) (clauses more)

  pub clause : plain.Pieces → tree.Stmts
  clause (plain.a_catch_parameter p (plain.a_block ss rest)) = stmts ss
  clause _ = tree.no_stmt

  pub last_block : plain.Pieces → Option tree.Stmts
  last_block (plain.present word (plain.a_block ss rest) more) = Some (stmts ss)
  last_block _ = None

-- ---- texts, with a space between two tokens

abbrev pub expr_of_text : List ℕ → Option tree.Expr
expr_of_text text = do
  e ← read_at 20 0 (tokens_of text)
  read ← if_ended e.0 e.1
  Some (expr read)

abbrev pub stmt_of_text : List ℕ → Option tree.Stmt
stmt_of_text text = do
  s ← stmt_at method_readers 20 (tokens_of text)
  read ← if_ended s.0 s.1
  Some (stmt read)
