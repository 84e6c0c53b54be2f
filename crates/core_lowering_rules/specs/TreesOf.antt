-- A contract of a public call rests on this: the code's trees as trees that are lowered.
use Rattle.std.specs.Prelude.{ℕ, Bool, false, ◌||◌, List, [], Option, Some, None, map, option_map, codes}
use Rattle.std.specs.Prelude.{bytes_eq, ◌∷◌}
use Rattle.std.specs.Prelude.{if◌then◌else◌}
use Rattle.java_lexer.specs.declared.token.TokenKind.{TokenKind}
use Rattle.java_lexer.specs.declared.token.TokenKind.TheVariants as token
use Rattle.java_tree.specs.declared.words.Ident.{Ident}
use Rattle.java_tree.specs.declared.expressions.Expression.{Expression, out-Expression}
use Rattle.java_tree.specs.declared.expressions.Initialiser.{Initialiser}
use Rattle.java_tree.specs.declared.expressions.ArrayTree.{ArrayTree}
use Rattle.java_tree.specs.declared.expressions.LambdaBody.{LambdaBody}
use Rattle.java_tree.specs.declared.expressions.Made.{Made}
use Rattle.java_tree.specs.declared.expressions.Referred.{Referred}
use Rattle.java_tree.specs.declared.expressions.CallTree.{CallTree}
use Rattle.java_tree.specs.declared.expressions.CastTree.{CastTree}
use Rattle.java_tree.specs.declared.expressions.InstanceTree.{InstanceTree}
use Rattle.java_tree.specs.declared.expressions.LambdaTree.{LambdaTree}
use Rattle.java_tree.specs.declared.expressions.NewTree.{NewTree}
use Rattle.java_tree.specs.declared.expressions.ReferenceTree.{ReferenceTree}
use Rattle.java_tree.specs.declared.types.TypeTree.{TypeTree}
use Rattle.java_tree.specs.declared.expressions.Expression.TheOpen.{Expression-F, Initialiser-F, LambdaBody-F, Made-F}
use Rattle.java_tree.specs.declared.expressions.Expression.TheOpen.{Referred-F, ArrayTree-F, CallTree-F, NewTree-F}
use Rattle.java_tree.specs.declared.expressions.Expression.TheOpen.{ReferenceTree-F, CastTree-F, InstanceTree-F}
use Rattle.java_tree.specs.declared.expressions.Expression.TheOpen.{LambdaTree-F}
use Rattle.java_tree.specs.declared.expressions.Expression.TheOpen as expression
use Rattle.java_tree.specs.declared.expressions.Expression.TheFolds.{fold-Expression, fold-Initialiser}
use Rattle.java_tree.specs.declared.expressions.Expression.TheFolds.{fold-LambdaBody, fold-Referred, fold-ArrayTree}
use Rattle.java_tree.specs.declared.expressions.Expression.TheFolds.{fold-Made, fold-CallTree, fold-NewTree}
use Rattle.java_tree.specs.declared.expressions.Expression.TheFolds.{fold-ReferenceTree, fold-CastTree}
use Rattle.java_tree.specs.declared.expressions.Expression.TheFolds.{fold-InstanceTree, fold-LambdaTree}
use Rattle.racer_base.specs.declared.ids.Place.{Place}
use Rattle.java_tree.specs.declared.statements.VariableTree.{VariableTree}
use Rattle.java_tree.specs.declared.statements.StartTree.{StartTree}
use Rattle.java_tree.specs.declared.statements.StartTree.TheVariants as start
use Rattle.java_tree.specs.declared.statements.Statement.{Statement}
use Rattle.java_tree.specs.declared.statements.ResourceTree.{ResourceTree}
use Rattle.java_tree.specs.declared.statements.ResourcesTree.{ResourcesTree}
use Rattle.java_tree.specs.declared.statements.LabelTree.{LabelTree}
use Rattle.java_tree.specs.declared.statements.LabelTree.TheVariants as label
use Rattle.java_tree.specs.declared.statements.TryTree.{TryTree}
use Rattle.java_tree.specs.declared.statements.CatchTree.{CatchTree}
use Rattle.java_tree.specs.declared.statements.GroupTree.{GroupTree}
use Rattle.java_tree.specs.declared.statements.Statement.TheOpen.{Statement-F, TryTree-F, CatchTree-F, GroupTree-F}
use Rattle.java_tree.specs.declared.statements.Statement.TheOpen as statement
use Rattle.java_tree.specs.declared.statements.Statement.TheFolds.{fold-Statement, fold-TryTree, fold-CatchTree}
use Rattle.java_tree.specs.declared.statements.Statement.TheFolds.{fold-GroupTree}
use Rattle.java_tree.specs.Trees.{Ty, Typed, Named as NamedType, no_part}
use Rattle.java_tree.specs.View.{ty_of}
use Rattle.core_lowering_rules.specs.Trees.{Expr, Prim, Unknown, Null, This, ClassOf, Read, Unary, Cast, Logical}
use Rattle.core_lowering_rules.specs.Trees.{Binary}
use Rattle.core_lowering_rules.specs.Trees.{Conditional, Assign, Combine, Count, Paren, Call, CallOn, New, NewArray}
use Rattle.core_lowering_rules.specs.Trees.{NewItems, NewBody, ThisOf, Refer, Referee, ToExpr, ToType}
use Rattle.core_lowering_rules.specs.Trees.{Access, Named, Selected, Element, NoAccess, Init, Value, Items, Inits}
use Rattle.core_lowering_rules.specs.Trees.{Variable}
use Rattle.core_lowering_rules.specs.Trees.{Start, Declares, Runs, Stmt, Run, Local, If, IfElse, While, For, ForEach}
use Rattle.core_lowering_rules.specs.Trees.{Sync}
use Rattle.core_lowering_rules.specs.Trees.{Return, Block, Empty, Do, Throw, Break, Continue, Labelled, Assert, Switch}
use Rattle.core_lowering_rules.specs.Trees.{Try, Finally, Resource, Stmts, Catches, pack_exprs, pack_inits, pack_stmts}
use Rattle.core_lowering_rules.specs.Trees.{pack_catches, pack_groups, Condition}

-- ---- expressions

-- the access that an expression is
abbrev pub access_of : Expr → Access
access_of (Read a) = a
access_of _ = NoAccess

-- a literal (JLS 15.8.1)
abbrev pub literal : TokenKind → List ℕ → Expr
literal token.Text text = Unknown
literal token.Fixed text = if bytes_eq text (codes "null") then Null else Prim
literal _ text = Prim

abbrev pub is_assignment : List ℕ → Bool
is_assignment op = bytes_eq op (codes "=")

abbrev pub assignment : List ℕ → Access → Expr → Expr
assignment op a b = if is_assignment op then Assign a b else Combine a b

abbrev pub is_logical : List ℕ → Bool
is_logical op = bytes_eq op (codes "&&") || bytes_eq op (codes "||")

abbrev pub binary : List ℕ → Expr → Expr → Expr
binary op a b = if is_logical op then Logical a b else Binary a b

abbrev pub is_count : List ℕ → Bool
is_count op = bytes_eq op (codes "++") || bytes_eq op (codes "--")

abbrev pub prefix : List ℕ → Expr → Expr
prefix op a = if is_count op then Count (access_of a) else Unary a

abbrev pub call : Option Expr → Ident → List Expr → Expr
call None x all = Call x (pack_exprs all)
call (Some a) x all = CallOn a x (pack_exprs all)

-- of several types the first (JLS 15.16); a cast to none is not formed
abbrev pub first_type : List TypeTree → Ty
first_type [] = Typed (NamedType no_part) 0
first_type (t ∷ ts) = ty_of t

-- what a `new` makes of its place and type
abbrev pub OfNew : Type 0
OfNew = Place → Ty → Expr

abbrev pub expr_step : Expression-F Expr Init Expr OfNew Referee Inits Expr Expr Expr Expr Expr Expr → Expr
expr_step (expression.Assign a op b) = assignment op (access_of a.value) b.value
expr_step (expression.Conditional a b c) = Conditional a.value b.value c.value
expr_step (expression.Binary a op b) = binary op a.value b.value
expr_step (expression.InstanceOf a) = a.value
expr_step (expression.Prefix op a) = prefix op a.value
expr_step (expression.Cast a) = a.value
expr_step (expression.Postfix a op) = Count (access_of a.value)
expr_step (expression.Literal k text) = literal k text
expr_step expression.This = This
expr_step (expression.Name x) = Read (Named x)
expr_step (expression.Paren a) = Paren a.value
expr_step (expression.Field a x) = Read (Selected a.value x)
expr_step (expression.Index a i) = Read (Element a.value i.value)
expr_step (expression.Call c) = c.value
expr_step (expression.ClassOf xs) = ClassOf xs.items
expr_step (expression.New n) = n.value
expr_step (expression.Lambda l) = l.value
expr_step (expression.Reference r) = r.value
expr_step (expression.PlainClass t) = Unknown
expr_step (expression.ThisOf xs) = ThisOf xs.items

-- what a lambda gives is not lowered (JLS 15.27)
abbrev pub behind_step : LambdaBody-F Expr Init Expr OfNew Referee Inits Expr Expr Expr Expr Expr Expr → Expr
behind_step body = Unknown

abbrev pub made_step : Made-F Expr Init Expr OfNew Referee Inits Expr Expr Expr Expr Expr Expr → OfNew
made_step (expression.Object all) place t = New place t (pack_exprs all.items)
made_step (expression.Anonymous all body) place t = NewBody place t (pack_exprs all.items)
made_step (expression.Array lengths n) place t = NewArray place (pack_exprs lengths.items)
made_step (expression.Filled n items) place t = NewItems place items

abbrev pub before_step : Referred-F Expr Init Expr OfNew Referee Inits Expr Expr Expr Expr Expr Expr → Referee
before_step (expression.Of a) = ToExpr a
before_step (expression.Type t) = ToType
before_step expression.Super = ToType

abbrev pub init_step : Initialiser-F Expr Init Expr OfNew Referee Inits Expr Expr Expr Expr Expr Expr → Init
init_step (expression.Value e) = Value e
init_step (expression.Items items) = Items items

abbrev pub array_step : ArrayTree-F Expr Init Expr OfNew Referee Inits Expr Expr Expr Expr Expr Expr → Inits
array_step a = pack_inits a.items.items

abbrev pub call_step : CallTree-F Expr Init Expr OfNew Referee Inits Expr Expr Expr Expr Expr Expr → Expr
call_step c = call (option_map (λ b. b.value) c.receiver) c.name c.arguments.items

abbrev pub cast_step : CastTree-F Expr Init Expr OfNew Referee Inits Expr Expr Expr Expr Expr Expr → Expr
cast_step c = Cast (first_type c.types) c.value

abbrev pub instance_step : InstanceTree-F Expr Init Expr OfNew Referee Inits Expr Expr Expr Expr Expr Expr → Expr
instance_step i = Unary i.value

abbrev pub lambda_step : LambdaTree-F Expr Init Expr OfNew Referee Inits Expr Expr Expr Expr Expr Expr → Expr
lambda_step l = Unknown

abbrev pub new_step : NewTree-F Expr Init Expr OfNew Referee Inits Expr Expr Expr Expr Expr Expr → Expr
new_step n = n.made n.place (ty_of n.kind)

abbrev pub reference_step : ReferenceTree-F Expr Init Expr OfNew Referee Inits Expr Expr Expr Expr Expr Expr → Expr
reference_step r = Refer r.of

abbrev pub expr_of : Expression → Expr
expr_of = fold-Expression Expr Init Expr OfNew Referee Inits Expr Expr Expr Expr Expr Expr
    expr_step init_step behind_step made_step before_step array_step call_step cast_step
    instance_step lambda_step new_step reference_step

abbrev pub init_of : Initialiser → Init
init_of = fold-Initialiser Expr Init Expr OfNew Referee Inits Expr Expr Expr Expr Expr Expr
    expr_step init_step behind_step made_step before_step array_step call_step cast_step
    instance_step lambda_step new_step reference_step

abbrev pub behind_of : LambdaBody → Expr
behind_of = fold-LambdaBody Expr Init Expr OfNew Referee Inits Expr Expr Expr Expr Expr Expr
    expr_step init_step behind_step made_step before_step array_step call_step cast_step
    instance_step lambda_step new_step reference_step

abbrev pub made_of : Made → OfNew
made_of = fold-Made Expr Init Expr OfNew Referee Inits Expr Expr Expr Expr Expr Expr
    expr_step init_step behind_step made_step before_step array_step call_step cast_step
    instance_step lambda_step new_step reference_step

-- what stands before a `::` (JLS 15.13)
abbrev pub referred_of : Referred → Referee
referred_of = fold-Referred Expr Init Expr OfNew Referee Inits Expr Expr Expr Expr Expr Expr
    expr_step init_step behind_step made_step before_step array_step call_step cast_step
    instance_step lambda_step new_step reference_step

abbrev pub items_of : ArrayTree → Inits
items_of = fold-ArrayTree Expr Init Expr OfNew Referee Inits Expr Expr Expr Expr Expr Expr
    expr_step init_step behind_step made_step before_step array_step call_step cast_step
    instance_step lambda_step new_step reference_step

abbrev pub call_tree_of : CallTree → Expr
call_tree_of = fold-CallTree Expr Init Expr OfNew Referee Inits Expr Expr Expr Expr Expr Expr
    expr_step init_step behind_step made_step before_step array_step call_step cast_step
    instance_step lambda_step new_step reference_step

abbrev pub cast_tree_of : CastTree → Expr
cast_tree_of = fold-CastTree Expr Init Expr OfNew Referee Inits Expr Expr Expr Expr Expr Expr
    expr_step init_step behind_step made_step before_step array_step call_step cast_step
    instance_step lambda_step new_step reference_step

abbrev pub instance_tree_of : InstanceTree → Expr
instance_tree_of = fold-InstanceTree Expr Init Expr OfNew Referee Inits Expr Expr Expr Expr Expr Expr
    expr_step init_step behind_step made_step before_step array_step call_step cast_step
    instance_step lambda_step new_step reference_step

abbrev pub lambda_tree_of : LambdaTree → Expr
lambda_tree_of = fold-LambdaTree Expr Init Expr OfNew Referee Inits Expr Expr Expr Expr Expr Expr
    expr_step init_step behind_step made_step before_step array_step call_step cast_step
    instance_step lambda_step new_step reference_step

abbrev pub new_tree_of : NewTree → Expr
new_tree_of = fold-NewTree Expr Init Expr OfNew Referee Inits Expr Expr Expr Expr Expr Expr
    expr_step init_step behind_step made_step before_step array_step call_step cast_step
    instance_step lambda_step new_step reference_step

abbrev pub reference_tree_of : ReferenceTree → Expr
reference_tree_of = fold-ReferenceTree Expr Init Expr OfNew Referee Inits Expr Expr Expr Expr Expr Expr
    expr_step init_step behind_step made_step before_step array_step call_step cast_step
    instance_step lambda_step new_step reference_step

-- ---- statements

abbrev pub Layer : Type 0
Layer = Expression-F Expression Initialiser LambdaBody Made Referred ArrayTree CallTree CastTree InstanceTree LambdaTree
    NewTree ReferenceTree

abbrev pub is_true_in : Layer → Bool
is_true_in (expression.Literal k text) = bytes_eq text (codes "true")
is_true_in _ = false

abbrev pub condition_of : Expression → Condition
condition_of e = record { on = expr_of e; is_true = is_true_in (out-Expression e) }

abbrev pub variable_of : VariableTree → Variable
variable_of d = record { name = d.name; arrays = d.arrays; initialiser = option_map init_of d.initialiser }

abbrev pub start_of : StartTree → Start
start_of (start.Local l) = Declares (ty_of l.kind) (map variable_of l.variables)
start_of (start.Expressions all) = Runs (pack_exprs (map expr_of all))

abbrev pub if_of : Expr → Stmt → Option Stmt → Stmt
if_of e s None = If e s
if_of e s (Some t) = IfElse e s t

abbrev pub Clause : Type 0
Clause = Ident × Stmts

abbrev pub Group : Type 0
Group = List (Option Expr) × Stmts

abbrev pub resource_of : ResourceTree → Resource
resource_of r = record { kind = ty_of r.kind; name = r.name; value = expr_of r.value }

abbrev pub resources_of : Option ResourcesTree → List Resource
resources_of None = []
resources_of (Some rs) = map resource_of rs.items

abbrev pub stmt_step : Statement-F Stmt Clause Group Stmt → Stmt
stmt_step (statement.Block ss) = Block (pack_stmts ss.items)
stmt_step (statement.Local l) = Local (ty_of l.kind) (map variable_of l.variables)
stmt_step (statement.Expr e) = Run (expr_of e)
stmt_step (statement.If e s t) = if_of (expr_of e) s.value (option_map (λ b. b.value) t)
stmt_step (statement.While e s) = While (condition_of e) s.value
stmt_step (statement.For i condition updates s) =
    For (start_of i) (option_map condition_of condition) (pack_exprs (map expr_of updates.items)) s.value
stmt_step (statement.ForEach v e s) = ForEach (ty_of v.kind) v.name (expr_of e) s.value
stmt_step (statement.Sync place e ss) = Sync place (expr_of e) (pack_stmts ss.items)
stmt_step (statement.Return e) = Return (option_map expr_of e)
stmt_step statement.Empty = Empty
-- a local class is kept as tokens
stmt_step (statement.LocalClass x ts) = Empty
stmt_step (statement.Do s e) = Do s.value (condition_of e)
stmt_step (statement.Throw place e) = Throw place (expr_of e)
stmt_step (statement.Break x) = Break x
stmt_step (statement.Continue x) = Continue x
stmt_step (statement.Labelled x s) = Labelled x s.value
stmt_step (statement.Assert e f) = Assert (expr_of e) (option_map expr_of f)
stmt_step (statement.Switch e gs) = Switch (expr_of e) (pack_groups gs.items)
stmt_step (statement.Try t) = t.value

abbrev pub catch_step : CatchTree-F Stmt Clause Group Stmt → Clause
catch_step c = (c.parameter.name, pack_stmts c.body.items)

abbrev pub label_of : LabelTree → Option Expr
label_of (label.Case e) = Some (expr_of e)
label_of label.Default = None

abbrev pub group_step : GroupTree-F Stmt Clause Group Stmt → Group
group_step g = (map label_of g.labels, pack_stmts g.body.items)

abbrev pub tried : List Resource → Stmts → Catches → Option Stmts → Stmt
tried resources body catches (Some finally) = Finally resources body catches finally
tried resources body catches None = Try resources body catches

abbrev pub try_step : TryTree-F Stmt Clause Group Stmt → Stmt
try_step t =
    tried (resources_of t.resources) (pack_stmts t.body.items) (pack_catches t.clauses.items)
    (option_map (λ ss. pack_stmts ss.items) t.finally)

abbrev pub stmt_of : Statement → Stmt
stmt_of = fold-Statement Stmt Clause Group Stmt stmt_step catch_step group_step try_step

abbrev pub catch_of : CatchTree → Clause
catch_of = fold-CatchTree Stmt Clause Group Stmt stmt_step catch_step group_step try_step

abbrev pub group_of : GroupTree → Group
group_of = fold-GroupTree Stmt Clause Group Stmt stmt_step catch_step group_step try_step

abbrev pub try_of : TryTree → Stmt
try_of = fold-TryTree Stmt Clause Group Stmt stmt_step catch_step group_step try_step
