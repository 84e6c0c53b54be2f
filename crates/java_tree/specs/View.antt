-- A contract of a public call rests on this: the trees of the code without places and without memory.
use Rattle.std.specs.Prelude.{ℕ, Bool, List, [], ◌∷◌, Option, Some, None, map, option_map}
use Rattle.java_tree.specs.declared.words.Ident.{Ident}
use Rattle.java_tree.specs.declared.words.Spelled.{Spelled}
use Rattle.java_tree.specs.declared.types.TypeTree.{TypeTree}
use Rattle.java_tree.specs.declared.types.BaseType.{BaseType}
use Rattle.java_tree.specs.declared.types.TypePart.{TypePart}
use Rattle.java_tree.specs.declared.types.TypeArguments.{TypeArguments}
use Rattle.java_tree.specs.declared.types.TypeArgument.{TypeArgument}
use Rattle.java_tree.specs.declared.types.BaseType.TheOpen.{BaseType-F, TypeArgument-F, TypeArguments-F, TypePart-F}
use Rattle.java_tree.specs.declared.types.BaseType.TheOpen.{TypeTree-F}
use Rattle.java_tree.specs.declared.types.BaseType.TheOpen as type
use Rattle.java_tree.specs.declared.types.BaseType.TheFolds.{fold-TypeTree, fold-BaseType, fold-TypePart}
use Rattle.java_tree.specs.declared.types.BaseType.TheFolds.{fold-TypeArguments, fold-TypeArgument}
use Rattle.java_tree.specs.declared.expressions.Expression.{Expression}
use Rattle.java_tree.specs.declared.expressions.Initialiser.{Initialiser}
use Rattle.java_tree.specs.declared.expressions.ArrayTree.{ArrayTree}
use Rattle.java_tree.specs.declared.expressions.LambdaBody.{LambdaBody}
use Rattle.java_tree.specs.declared.expressions.Made.{Made}
use Rattle.java_tree.specs.declared.expressions.Referred.{Referred}
use Rattle.java_tree.specs.declared.expressions.CallTree.{CallTree}
use Rattle.java_tree.specs.declared.expressions.CastTree.{CastTree}
use Rattle.java_tree.specs.declared.expressions.InstanceTree.{InstanceTree}
use Rattle.java_tree.specs.declared.expressions.LambdaTree.{LambdaTree}
use Rattle.java_tree.specs.declared.expressions.NewTree.{NewTree}
use Rattle.java_tree.specs.declared.expressions.ReferenceTree.{ReferenceTree}
use Rattle.java_tree.specs.declared.expressions.Expression.TheOpen.{Expression-F, Initialiser-F, LambdaBody-F, Made-F}
use Rattle.java_tree.specs.declared.expressions.Expression.TheOpen.{Referred-F, ArrayTree-F, CallTree-F, NewTree-F}
use Rattle.java_tree.specs.declared.expressions.Expression.TheOpen.{ReferenceTree-F, CastTree-F, InstanceTree-F}
use Rattle.java_tree.specs.declared.expressions.Expression.TheOpen.{LambdaTree-F}
use Rattle.java_tree.specs.declared.expressions.Expression.TheOpen as expression
use Rattle.java_tree.specs.declared.expressions.Expression.TheFolds.{
  fold-Expression,
  fold-Initialiser,
  fold-LambdaBody,
  fold-Made,
  fold-Referred,
  fold-ArrayTree,
  fold-CallTree,
  fold-CastTree,
  fold-InstanceTree,
  fold-LambdaTree,
  fold-NewTree,
  fold-ReferenceTree,
}
use Rattle.java_tree.specs.declared.statements.VariableTree.{VariableTree}
use Rattle.java_tree.specs.declared.statements.LocalsTree.{LocalsTree}
use Rattle.java_tree.specs.declared.statements.StartTree.{StartTree}
use Rattle.java_tree.specs.declared.statements.StartTree.TheVariants as init
use Rattle.java_tree.specs.declared.statements.ResourceTree.{ResourceTree}
use Rattle.java_tree.specs.declared.statements.ResourcesTree.{ResourcesTree}
use Rattle.java_tree.specs.declared.statements.CatchParameterTree.{CatchParameterTree}
use Rattle.java_tree.specs.declared.statements.LabelTree.{LabelTree}
use Rattle.java_tree.specs.declared.statements.LabelTree.TheVariants as label
use Rattle.java_tree.specs.declared.statements.Statement.{Statement}
use Rattle.java_tree.specs.declared.statements.TryTree.{TryTree}
use Rattle.java_tree.specs.declared.statements.CatchTree.{CatchTree}
use Rattle.java_tree.specs.declared.statements.GroupTree.{GroupTree}
use Rattle.java_tree.specs.declared.statements.Statement.TheOpen.{Statement-F, TryTree-F, CatchTree-F, GroupTree-F}
use Rattle.java_tree.specs.declared.statements.Statement.TheOpen as statement
use Rattle.java_tree.specs.declared.statements.Statement.TheFolds.{fold-Statement, fold-TryTree, fold-CatchTree}
use Rattle.java_tree.specs.declared.statements.Statement.TheFolds.{fold-GroupTree}
use Rattle.java_tree.specs.declared.methods.AnnotationTree.{AnnotationTree}
use Rattle.java_tree.specs.declared.methods.ModifierTree as modifiers
use Rattle.java_tree.specs.declared.methods.ModifierTree.TheVariants as modifier
use Rattle.java_tree.specs.declared.methods.ResultTree.{ResultTree}
use Rattle.java_tree.specs.declared.methods.ResultTree.TheVariants as result
use Rattle.java_tree.specs.declared.methods.ParameterTree.{ParameterTree}
use Rattle.java_tree.specs.declared.methods.TypeParameterTree.{TypeParameterTree}
use Rattle.java_tree.specs.declared.methods.TypeParametersTree.{TypeParametersTree}
use Rattle.java_tree.specs.declared.methods.MethodTree.{MethodTree}
use Rattle.java_tree.specs.Trees.{Ty, Typed, Base, Plain, Named, Part, Bare, Generic, Arguments, Angled, Argument}
use Rattle.java_tree.specs.Trees.{Exact, Any, Extends, Super, Expr, Assign, Conditional, Binary, InstanceOf, Prefix}
use Rattle.java_tree.specs.Trees.{Cast, Postfix, Literal, This, Name, Paren, Field, Index, Call, CallOn, ClassOf}
use Rattle.java_tree.specs.Trees.{NewBody, Lambda, BlockLambda, Reference, TypeReference, SuperReference, PlainClass}
use Rattle.java_tree.specs.Trees.{ThisOf, LocalClass, TypeParameter, TypeParameters}
use Rattle.java_tree.specs.Trees.{New, NewArray, NewItems, Array, Braces, Init, Value, Items, Variable, Locals}
use Rattle.java_tree.specs.Trees.{Start, Declares, Runs, Resource, Resources, CatchParameter, Label, Case, Default}
use Rattle.java_tree.specs.Trees.{Stmt, Block, Local, Run, If, IfElse, For, ForEach, Labelled, Empty, Stmts, Pieces}
use Rattle.java_tree.specs.Trees.{no_piece, a_block, a_catch_parameter, Several, no_row, row_then, Groups, no_group}
use Rattle.java_tree.specs.Trees.{group_then, Annotation, Modifier, Word, Annotated, Result, NoResult}
use Rattle.java_tree.specs.Trees.{VoidResult, TypeResult, Parameter, Method, pack_parts}
use Rattle.java_tree.specs.Trees.{pack_arguments, pack_exprs, pack_inits, pack_stmts}
use Rattle.java_tree.specs.Rows.{While, Do, Return, Break, Continue, Throw, Sync, Switch, Try, Assert}

abbrev pub name_of : Ident → List ℕ
name_of x = x.text

-- ---- types

abbrev pub base_step : BaseType-F Base Argument Arguments Part Ty → Base
base_step (type.Plain text) = Plain text
base_step (type.Named parts) = Named (pack_parts parts.items)

abbrev pub argument_step : TypeArgument-F Base Argument Arguments Part Ty → Argument
argument_step (type.Exact t) = Exact t
argument_step type.Any = Any
argument_step (type.Extends t) = Extends t
argument_step (type.Super t) = Super t

abbrev pub arguments_step : TypeArguments-F Base Argument Arguments Part Ty → Arguments
arguments_step a = Angled (pack_arguments a.items.items) a.glued

abbrev pub part_of_name : List ℕ → Option Arguments → Part
part_of_name x None = Bare x
part_of_name x (Some a) = Generic x a

abbrev pub part_step : TypePart-F Base Argument Arguments Part Ty → Part
part_step p = part_of_name (name_of p.name) p.arguments

abbrev pub ty_step : TypeTree-F Base Argument Arguments Part Ty → Ty
ty_step t = Typed t.base t.arrays

abbrev pub ty_of : TypeTree → Ty
ty_of = fold-TypeTree Base Argument Arguments Part Ty base_step argument_step arguments_step part_step ty_step

abbrev pub base_of : BaseType → Base
base_of = fold-BaseType Base Argument Arguments Part Ty base_step argument_step arguments_step part_step ty_step

abbrev pub angled_of : TypeArguments → Arguments
angled_of = fold-TypeArguments Base Argument Arguments Part Ty base_step argument_step arguments_step part_step
    ty_step

abbrev pub part_of : TypePart → Part
part_of = fold-TypePart Base Argument Arguments Part Ty base_step argument_step arguments_step part_step ty_step

abbrev pub argument_of : TypeArgument → Argument
argument_of = fold-TypeArgument Base Argument Arguments Part Ty base_step argument_step arguments_step part_step
    ty_step

-- ---- expressions

-- the types that the method of a call or of a reference takes, which have no brackets where there are none
abbrev pub types_of : List TypeTree → Bool → Option Arguments
types_of [] glued = None
types_of (t ∷ ts) glued = Some (Angled (pack_arguments (map (λ u. Exact (ty_of u)) (t ∷ ts))) glued)

-- types before the name mean nothing where the method is called on nothing (JLS 15.12)
abbrev pub call_of : Option Expr → Option Arguments → List ℕ → List Expr → Expr
call_of None types x all = Call x (pack_exprs all)
call_of (Some a) types x all = CallOn a types x (pack_exprs all)

-- what stands behind the arrow of a lambda: an expression, or the tokens of braces
pub data Behind : Type 0 where
  Gives : Expr → Behind
  Does : List Spelled → Behind

abbrev pub lambda_of : List Spelled → Behind → Expr
lambda_of ps (Gives a) = Lambda ps a
lambda_of ps (Does block) = BlockLambda ps block

-- what a method reference begins with: an expression, a type, or `super`
pub data Before : Type 0 where
  OfExpr : Expr → Before
  OfType : Ty → Before
  OfSuper : Before

abbrev pub reference_of : Before → Option Arguments → Option (List ℕ) → Expr
reference_of (OfExpr a) types x = Reference a types x
reference_of (OfType t) types x = TypeReference t types x
reference_of OfSuper types x = SuperReference types x

-- what a `new` makes of its type
abbrev pub OfTy : Type 0
OfTy = Ty → Expr

abbrev pub expr_step : Expression-F Expr Init Behind OfTy Before Array Expr Expr Expr Expr Expr Expr → Expr
expr_step (expression.Assign a op b) = Assign a.value op b.value
expr_step (expression.Conditional a b c) = Conditional a.value b.value c.value
expr_step (expression.Binary a op b) = Binary a.value op b.value
expr_step (expression.InstanceOf a) = a.value
expr_step (expression.Prefix op a) = Prefix op a.value
expr_step (expression.Cast a) = a.value
expr_step (expression.Postfix a op) = Postfix a.value op
expr_step (expression.Literal k text) = Literal k text
expr_step expression.This = This
expr_step (expression.Name x) = Name (name_of x)
expr_step (expression.Paren a) = Paren a.value
expr_step (expression.Field a x) = Field a.value (name_of x)
expr_step (expression.Index a i) = Index a.value i.value
expr_step (expression.Call c) = c.value
expr_step (expression.ClassOf xs) = ClassOf (map name_of xs.items)
expr_step (expression.New n) = n.value
expr_step (expression.Lambda l) = l.value
expr_step (expression.Reference r) = r.value
expr_step (expression.PlainClass t) = PlainClass (ty_of t)
expr_step (expression.ThisOf xs) = ThisOf (map name_of xs.items)

abbrev pub behind_step : LambdaBody-F Expr Init Behind OfTy Before Array Expr Expr Expr Expr Expr Expr → Behind
behind_step (expression.Gives a) = Gives a
behind_step (expression.Block block) = Does block

abbrev pub made_step : Made-F Expr Init Behind OfTy Before Array Expr Expr Expr Expr Expr Expr → OfTy
made_step (expression.Object all) t = New t (pack_exprs all.items)
made_step (expression.Anonymous all body) t = NewBody t (pack_exprs all.items) body
made_step (expression.Array lengths n) t = NewArray t (pack_exprs lengths.items) n
made_step (expression.Filled n items) t = NewItems t n items

abbrev pub before_step : Referred-F Expr Init Behind OfTy Before Array Expr Expr Expr Expr Expr Expr → Before
before_step (expression.Of a) = OfExpr a
before_step (expression.Type t) = OfType (ty_of t)
before_step expression.Super = OfSuper

abbrev pub init_step : Initialiser-F Expr Init Behind OfTy Before Array Expr Expr Expr Expr Expr Expr → Init
init_step (expression.Value e) = Value e
init_step (expression.Items items) = Items items

abbrev pub array_step : ArrayTree-F Expr Init Behind OfTy Before Array Expr Expr Expr Expr Expr Expr → Array
array_step a = Braces (pack_inits a.items.items) a.last_comma

abbrev pub call_step : CallTree-F Expr Init Behind OfTy Before Array Expr Expr Expr Expr Expr Expr → Expr
call_step c =
    call_of (option_map (λ b. b.value) c.receiver) (types_of c.types c.glued) (name_of c.name) c.arguments.items

abbrev pub cast_step : CastTree-F Expr Init Behind OfTy Before Array Expr Expr Expr Expr Expr Expr → Expr
cast_step c = Cast (map ty_of c.types) c.value

abbrev pub instance_step : InstanceTree-F Expr Init Behind OfTy Before Array Expr Expr Expr Expr Expr Expr → Expr
instance_step i = InstanceOf i.value (ty_of i.kind)

abbrev pub lambda_step : LambdaTree-F Expr Init Behind OfTy Before Array Expr Expr Expr Expr Expr Expr → Expr
lambda_step l = lambda_of l.parameters l.body

abbrev pub new_step : NewTree-F Expr Init Behind OfTy Before Array Expr Expr Expr Expr Expr Expr → Expr
new_step n = n.made (ty_of n.kind)

abbrev pub reference_step : ReferenceTree-F Expr Init Behind OfTy Before Array Expr Expr Expr Expr Expr Expr → Expr
reference_step r = reference_of r.of (types_of r.types r.glued) (option_map name_of r.name)

abbrev pub expr_of : Expression → Expr
expr_of = fold-Expression Expr Init Behind OfTy Before Array Expr Expr Expr Expr Expr Expr
    expr_step init_step behind_step made_step before_step array_step call_step cast_step
    instance_step lambda_step new_step reference_step

abbrev pub init_of : Initialiser → Init
init_of = fold-Initialiser Expr Init Behind OfTy Before Array Expr Expr Expr Expr Expr Expr
    expr_step init_step behind_step made_step before_step array_step call_step cast_step
    instance_step lambda_step new_step reference_step

abbrev pub behind_of : LambdaBody → Behind
behind_of = fold-LambdaBody Expr Init Behind OfTy Before Array Expr Expr Expr Expr Expr Expr
    expr_step init_step behind_step made_step before_step array_step call_step cast_step
    instance_step lambda_step new_step reference_step

abbrev pub made_of : Made → OfTy
made_of = fold-Made Expr Init Behind OfTy Before Array Expr Expr Expr Expr Expr Expr
    expr_step init_step behind_step made_step before_step array_step call_step cast_step
    instance_step lambda_step new_step reference_step

abbrev pub before_of : Referred → Before
before_of = fold-Referred Expr Init Behind OfTy Before Array Expr Expr Expr Expr Expr Expr
    expr_step init_step behind_step made_step before_step array_step call_step cast_step
    instance_step lambda_step new_step reference_step

abbrev pub array_of : ArrayTree → Array
array_of = fold-ArrayTree Expr Init Behind OfTy Before Array Expr Expr Expr Expr Expr Expr
    expr_step init_step behind_step made_step before_step array_step call_step cast_step
    instance_step lambda_step new_step reference_step

abbrev pub call_tree_of : CallTree → Expr
call_tree_of = fold-CallTree Expr Init Behind OfTy Before Array Expr Expr Expr Expr Expr Expr
    expr_step init_step behind_step made_step before_step array_step call_step cast_step
    instance_step lambda_step new_step reference_step

abbrev pub cast_tree_of : CastTree → Expr
cast_tree_of = fold-CastTree Expr Init Behind OfTy Before Array Expr Expr Expr Expr Expr Expr
    expr_step init_step behind_step made_step before_step array_step call_step cast_step
    instance_step lambda_step new_step reference_step

abbrev pub instance_tree_of : InstanceTree → Expr
instance_tree_of = fold-InstanceTree Expr Init Behind OfTy Before Array Expr Expr Expr Expr Expr Expr
    expr_step init_step behind_step made_step before_step array_step call_step cast_step
    instance_step lambda_step new_step reference_step

abbrev pub lambda_tree_of : LambdaTree → Expr
lambda_tree_of = fold-LambdaTree Expr Init Behind OfTy Before Array Expr Expr Expr Expr Expr Expr
    expr_step init_step behind_step made_step before_step array_step call_step cast_step
    instance_step lambda_step new_step reference_step

abbrev pub new_tree_of : NewTree → Expr
new_tree_of = fold-NewTree Expr Init Behind OfTy Before Array Expr Expr Expr Expr Expr Expr
    expr_step init_step behind_step made_step before_step array_step call_step cast_step
    instance_step lambda_step new_step reference_step

abbrev pub reference_tree_of : ReferenceTree → Expr
reference_tree_of = fold-ReferenceTree Expr Init Behind OfTy Before Array Expr Expr Expr Expr Expr Expr
    expr_step init_step behind_step made_step before_step array_step call_step cast_step
    instance_step lambda_step new_step reference_step

-- ---- modifiers

abbrev pub annotation_of : AnnotationTree → Annotation
annotation_of n = record { names = n.names; arguments = n.arguments }

abbrev pub modifier_of : modifiers.ModifierTree → Modifier
modifier_of (modifier.Word text) = Word text
modifier_of (modifier.Annotated n) = Annotated (annotation_of n)

-- ---- statements

abbrev pub variable_of : VariableTree → Variable
variable_of d =
    record { name = name_of d.name; arrays = d.arrays; initialiser = option_map init_of d.initialiser }

abbrev pub locals_of : LocalsTree → Locals
locals_of l = record {
  modifiers = map modifier_of l.modifiers;
  kind = ty_of l.kind;
  variables = map variable_of l.variables;
}

abbrev pub start_of : StartTree → Start
start_of (init.Local l) = Declares (locals_of l)
start_of (init.Expressions all) = Runs (pack_exprs (map expr_of all))

abbrev pub if_of : Expr → Stmt → Option Stmt → Stmt
if_of e s None = If e s
if_of e s (Some t) = IfElse e s t

abbrev pub resource_of : ResourceTree → Resource
resource_of r =
    record {
      modifiers = map modifier_of r.modifiers;
      kind = ty_of r.kind;
      name = name_of r.name;
      value = expr_of r.value;
    }

abbrev pub resources_of : ResourcesTree → Resources
resources_of rs = record { items = map resource_of rs.items; last = rs.last_semicolon }

abbrev pub catch_parameter_of : CatchParameterTree → CatchParameter
catch_parameter_of p =
    record { modifiers = map modifier_of p.modifiers; types = map ty_of p.types; name = name_of p.name }

abbrev pub label_of : LabelTree → Label
label_of (label.Case e) = Case (expr_of e)
label_of label.Default = Default

-- behind `catch`
abbrev pub Catch : CatchParameter → Stmts → Pieces
Catch p ss = a_catch_parameter p (a_block ss no_piece)

-- behind `finally`
abbrev pub Finally : Stmts → Pieces
Finally ss = a_block ss no_piece

abbrev pub pack_rows : List Pieces → Several
pack_rows [] = no_row
pack_rows (ps ∷ more) = row_then ps (pack_rows more)

abbrev pub Group : Type 0
Group = List Label × Stmts

abbrev pub pack_groups : List Group → Groups
pack_groups [] = no_group
pack_groups (g ∷ gs) = group_then g.0 g.1 (pack_groups gs)

abbrev pub stmt_step : Statement-F Stmt Pieces Group Stmt → Stmt
stmt_step (statement.Block ss) = Block (pack_stmts ss.items)
stmt_step (statement.Local l) = Local (locals_of l)
stmt_step (statement.Expr e) = Run (expr_of e)
stmt_step (statement.If e s t) = if_of (expr_of e) s.value (option_map (λ b. b.value) t)
stmt_step (statement.While e s) = While (expr_of e) s.value
stmt_step (statement.For start condition updates s) =
    For (start_of start) (option_map expr_of condition) (pack_exprs (map expr_of updates.items)) s.value
stmt_step (statement.ForEach v e s) =
    ForEach (map modifier_of v.modifiers) (ty_of v.kind) (name_of v.name) (expr_of e) s.value
stmt_step (statement.Sync place e ss) = Sync (expr_of e) (pack_stmts ss.items)
stmt_step (statement.Return e) = Return (option_map expr_of e)
stmt_step statement.Empty = Empty
stmt_step (statement.Do s e) = Do s.value (expr_of e)
stmt_step (statement.Throw place e) = Throw (expr_of e)
stmt_step (statement.Break x) = Break (option_map name_of x)
stmt_step (statement.Continue x) = Continue (option_map name_of x)
stmt_step (statement.Labelled x s) = Labelled (name_of x) s.value
stmt_step (statement.Assert e f) = Assert (expr_of e) (option_map expr_of f)
stmt_step (statement.LocalClass x ts) = LocalClass (name_of x) ts
stmt_step (statement.Switch e gs) = Switch (expr_of e) (pack_groups gs.items)
stmt_step (statement.Try t) = t.value

abbrev pub try_step : TryTree-F Stmt Pieces Group Stmt → Stmt
try_step t =
    Try (option_map resources_of t.resources) (pack_stmts t.body.items) (pack_rows t.clauses.items)
    (option_map (λ ss. Finally (pack_stmts ss.items)) t.finally)

abbrev pub catch_step : CatchTree-F Stmt Pieces Group Stmt → Pieces
catch_step c = Catch (catch_parameter_of c.parameter) (pack_stmts c.body.items)

abbrev pub group_step : GroupTree-F Stmt Pieces Group Stmt → Group
group_step g = (map label_of g.labels, pack_stmts g.body.items)

abbrev pub stmt_of : Statement → Stmt
stmt_of = fold-Statement Stmt Pieces Group Stmt stmt_step catch_step group_step try_step

abbrev pub try_of : TryTree → Stmt
try_of = fold-TryTree Stmt Pieces Group Stmt stmt_step catch_step group_step try_step

abbrev pub catch_of : CatchTree → Pieces
catch_of = fold-CatchTree Stmt Pieces Group Stmt stmt_step catch_step group_step try_step

abbrev pub group_of : GroupTree → Group
group_of = fold-GroupTree Stmt Pieces Group Stmt stmt_step catch_step group_step try_step

-- ---- methods

abbrev pub result_of : ResultTree → Result
result_of result.Constructor = NoResult
result_of result.Void = VoidResult
result_of (result.Of t) = TypeResult (ty_of t)

abbrev pub parameter_of : ParameterTree → Parameter
parameter_of p =
    record {
      modifiers = map modifier_of p.modifiers;
      kind = ty_of p.kind;
      any_number = p.any_number;
      name = name_of p.name;
      arrays = p.arrays;
    }

abbrev pub type_parameter_of : TypeParameterTree → TypeParameter
type_parameter_of p =
    record { annotations = map annotation_of p.annotations; name = name_of p.name; bounds = map ty_of p.bounds }

abbrev pub type_parameters_of : TypeParametersTree → TypeParameters
type_parameters_of ps =
    record { items = map type_parameter_of ps.items; glued = ps.glued; modifiers = map modifier_of ps.modifiers }

abbrev pub method_of : MethodTree → Method
method_of m =
    record {
      modifiers = map modifier_of m.modifiers;
      type_parameters = option_map type_parameters_of m.type_parameters;
      result = result_of m.result;
      name = name_of m.name;
      parameters = map parameter_of m.parameters;
      arrays = m.arrays;
      throws = map ty_of m.throws;
      body = pack_stmts (map stmt_of m.body);
    }
