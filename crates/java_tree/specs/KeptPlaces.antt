-- A contract of a public call rests on this: the places that a tree keeps, in the order of its tokens: those of names,
-- of `new`, and of `synchronized` and `throw` before a statement; and the places of a list of tokens of which a tree
-- keeps one. What a tree holds as tokens, as annotations and the bodies of lambdas, keeps no place.
use Rattle.std.specs.Prelude.{ℕ, Bool, true, false, ◌||◌, List, [], ◌∷◌, ◌++◌, Option, Some, None, map, option_map}
use Rattle.std.specs.Prelude.{◌≡◌, codes, bytes_eq, if◌then◌else◌}
use Rattle.racer_base.specs.declared.ids.Place.{Place}
use Rattle.java_lexer.specs.declared.token.Token.{Token}
use Rattle.java_lexer.specs.declared.token.TokenKind.{TokenKind}
use Rattle.java_lexer.specs.declared.token.TokenKind.TheVariants as kind
use Rattle.java_tree.specs.declared.words.Ident.{Ident}
use Rattle.java_tree.specs.declared.words.Spelled.{Spelled}
use Rattle.java_tree.specs.declared.types.TypeTree.{TypeTree}
use Rattle.java_tree.specs.declared.types.BaseType.{BaseType}
use Rattle.java_tree.specs.declared.types.TypePart.{TypePart}
use Rattle.java_tree.specs.declared.types.TypeArguments.{TypeArguments}
use Rattle.java_tree.specs.declared.types.TypeArgument.{TypeArgument}
use Rattle.java_tree.specs.declared.types.BaseType.TheOpen.{BaseType-F, TypeArgument-F, TypeArguments-F, TypePart-F}
use Rattle.java_tree.specs.declared.types.BaseType.TheOpen.{TypeTree-F}
use Rattle.java_tree.specs.declared.types.BaseType.TheOpen as type
use Rattle.java_tree.specs.declared.types.BaseType.TheFolds.{fold-TypeTree, fold-BaseType, fold-TypePart}
use Rattle.java_tree.specs.declared.types.BaseType.TheFolds.{fold-TypeArguments, fold-TypeArgument}
use Rattle.java_tree.specs.declared.expressions.Expression.{Expression}
use Rattle.java_tree.specs.declared.expressions.Initialiser.{Initialiser}
use Rattle.java_tree.specs.declared.expressions.ArrayTree.{ArrayTree}
use Rattle.java_tree.specs.declared.expressions.LambdaBody.{LambdaBody}
use Rattle.java_tree.specs.declared.expressions.Made.{Made}
use Rattle.java_tree.specs.declared.expressions.Referred.{Referred}
use Rattle.java_tree.specs.declared.expressions.CallTree.{CallTree}
use Rattle.java_tree.specs.declared.expressions.CastTree.{CastTree}
use Rattle.java_tree.specs.declared.expressions.InstanceTree.{InstanceTree}
use Rattle.java_tree.specs.declared.expressions.LambdaTree.{LambdaTree}
use Rattle.java_tree.specs.declared.expressions.NewTree.{NewTree}
use Rattle.java_tree.specs.declared.expressions.ReferenceTree.{ReferenceTree}
use Rattle.java_tree.specs.declared.expressions.Expression.TheOpen.{Expression-F, Initialiser-F, LambdaBody-F, Made-F}
use Rattle.java_tree.specs.declared.expressions.Expression.TheOpen.{Referred-F, ArrayTree-F, CallTree-F, NewTree-F}
use Rattle.java_tree.specs.declared.expressions.Expression.TheOpen.{ReferenceTree-F, CastTree-F, InstanceTree-F}
use Rattle.java_tree.specs.declared.expressions.Expression.TheOpen.{LambdaTree-F}
use Rattle.java_tree.specs.declared.expressions.Expression.TheOpen as expression
use Rattle.java_tree.specs.declared.expressions.Expression.TheFolds.{fold-Expression, fold-Initialiser}
use Rattle.java_tree.specs.declared.expressions.Expression.TheFolds.{fold-LambdaBody, fold-Referred, fold-ArrayTree}
use Rattle.java_tree.specs.declared.expressions.Expression.TheFolds.{fold-Made, fold-CallTree, fold-NewTree}
use Rattle.java_tree.specs.declared.expressions.Expression.TheFolds.{fold-ReferenceTree, fold-CastTree}
use Rattle.java_tree.specs.declared.expressions.Expression.TheFolds.{fold-InstanceTree, fold-LambdaTree}
use Rattle.java_tree.specs.declared.methods.AnnotationTree.{AnnotationTree}
use Rattle.java_tree.specs.declared.methods.ModifierTree as modifiers
use Rattle.java_tree.specs.declared.methods.ModifierTree.TheVariants as modifier
use Rattle.java_tree.specs.declared.statements.VariableTree.{VariableTree}
use Rattle.java_tree.specs.declared.statements.LocalsTree.{LocalsTree}
use Rattle.java_tree.specs.declared.statements.StartTree.{StartTree}
use Rattle.java_tree.specs.declared.statements.StartTree.TheVariants as start
use Rattle.java_tree.specs.declared.statements.ResourceTree.{ResourceTree}
use Rattle.java_tree.specs.declared.statements.ResourcesTree.{ResourcesTree}
use Rattle.java_tree.specs.declared.statements.CatchParameterTree.{CatchParameterTree}
use Rattle.java_tree.specs.declared.statements.LabelTree.{LabelTree}
use Rattle.java_tree.specs.declared.statements.LabelTree.TheVariants as label
use Rattle.java_tree.specs.declared.statements.Statement.{Statement}
use Rattle.java_tree.specs.declared.statements.TryTree.{TryTree}
use Rattle.java_tree.specs.declared.statements.CatchTree.{CatchTree}
use Rattle.java_tree.specs.declared.statements.GroupTree.{GroupTree}
use Rattle.java_tree.specs.declared.statements.Statement.TheOpen.{Statement-F, TryTree-F, CatchTree-F, GroupTree-F}
use Rattle.java_tree.specs.declared.statements.Statement.TheOpen as statement
use Rattle.java_tree.specs.declared.statements.Statement.TheFolds.{fold-Statement, fold-TryTree, fold-CatchTree}
use Rattle.java_tree.specs.declared.statements.Statement.TheFolds.{fold-GroupTree}
use Rattle.java_tree.specs.Words.{keyword}
use Rattle.java_tree.specs.Brackets.{is_word_name}

-- ---- tokens

-- whether a tree keeps the place of a token of this kind and text
abbrev pub is_kept : TokenKind → List ℕ → Bool
is_kept kind.Name text = true
is_kept kind.Keyword text =
    bytes_eq text (codes "new") || (bytes_eq text (codes "synchronized") || bytes_eq text (codes "throw"))
is_kept _ text = false

abbrev pub Places : Type 0
Places = List Place

-- the place of such a token, where a tree keeps it, and then the rest
abbrev pub place_onto : TokenKind → List ℕ → Place → Places → Places
place_onto k text p rest = if is_kept k text then p ∷ rest else rest

-- the places of those of the tokens of which a tree keeps one
abbrev pub kept : List Token → Places
kept [] = []
kept (t ∷ ts) = place_onto t.kind t.text t.place (kept ts)

-- ---- types (JLS 4)

-- those of one after the other
abbrev pub all_places : List Places → Places
all_places [] = []
all_places (ps ∷ rest) = ps ++ all_places rest

abbrev pub some_places : Option Places → Places
some_places None = []
some_places (Some ps) = ps

abbrev pub base_step : BaseType-F Places Places Places Places Places → Places
base_step (type.Plain text) = []
base_step (type.Named parts) = all_places parts.items

abbrev pub argument_step : TypeArgument-F Places Places Places Places Places → Places
argument_step (type.Exact t) = t
argument_step type.Any = []
argument_step (type.Extends t) = t
argument_step (type.Super t) = t

abbrev pub angled_step : TypeArguments-F Places Places Places Places Places → Places
angled_step a = all_places a.items.items

abbrev pub part_step : TypePart-F Places Places Places Places Places → Places
part_step p = p.name.place ∷ some_places p.arguments

abbrev pub ty_step : TypeTree-F Places Places Places Places Places → Places
ty_step t = t.base

abbrev pub ty_places : TypeTree → Places
ty_places = fold-TypeTree Places Places Places Places Places base_step argument_step angled_step part_step ty_step

abbrev pub base_places : BaseType → Places
base_places = fold-BaseType Places Places Places Places Places base_step argument_step angled_step part_step ty_step

abbrev pub part_places : TypePart → Places
part_places = fold-TypePart Places Places Places Places Places base_step argument_step angled_step part_step ty_step

abbrev pub angled_places : TypeArguments → Places
angled_places = fold-TypeArguments Places Places Places Places Places base_step argument_step angled_step part_step
    ty_step

abbrev pub argument_places : TypeArgument → Places
argument_places = fold-TypeArgument Places Places Places Places Places base_step argument_step angled_step part_step
    ty_step

-- ---- marks

-- for each token of which a tree could keep the place: the place that this one keeps, or none
abbrev pub Marks : Type 0
Marks = List (Option Place)

-- these places, and then the rest
abbrev pub some_onto : Places → Marks → Marks
some_onto [] rest = rest
some_onto (p ∷ ps) rest = Some p ∷ some_onto ps rest

-- those of one after the other, and then the rest
abbrev pub each_marks : {A : Type 0} → (A → Marks → Marks) → List A → Marks → Marks
each_marks marks [] rest = rest
each_marks marks (x ∷ xs) rest = marks x (each_marks marks xs rest)

abbrev pub maybe_marks : {A : Type 0} → (A → Marks → Marks) → Option A → Marks → Marks
maybe_marks marks None rest = rest
maybe_marks marks (Some x) rest = marks x rest

-- the place of this token is not kept
abbrev pub no_place : Spelled → Marks → Marks
no_place t rest = if is_kept t.kind t.text then None ∷ rest else rest

-- nor are those of these
abbrev pub no_places : List Spelled → Marks → Marks
no_places ts rest = each_marks no_place ts rest

-- nor that of this name
abbrev pub no_name : List ℕ → Marks → Marks
no_name x rest = None ∷ rest

-- the places are these, where one is kept
abbrev pub AreAt : Marks → Places → Type 0
AreAt [] [] = Unit {0}
AreAt [] (p ∷ ps) = ⊥
AreAt (m ∷ ms) [] = ⊥
AreAt (None ∷ ms) (p ∷ ps) = AreAt ms ps
AreAt (Some q ∷ ms) (p ∷ ps) = (q ≡ p) × AreAt ms ps

-- ---- modifiers (JLS 8.4.3, 9.7, 14.4)

abbrev pub annotation_marks : AnnotationTree → Marks → Marks
annotation_marks n rest = each_marks no_name n.names (no_places n.arguments rest)

abbrev pub modifier_marks : modifiers.ModifierTree → Marks → Marks
modifier_marks (modifier.Word text) rest = no_place (keyword text) rest
modifier_marks (modifier.Annotated n) rest = annotation_marks n rest

-- ---- expressions (JLS 15) and array initialisers (JLS 10.6): their marks, and then the rest

abbrev pub Puts : Type 0
Puts = Marks → Marks

abbrev pub each_puts : List Puts → Puts
each_puts [] rest = rest
each_puts (f ∷ fs) rest = f (each_puts fs rest)

abbrev pub maybe_puts : Option Puts → Puts
maybe_puts None rest = rest
maybe_puts (Some f) rest = f rest

abbrev pub name_places : Ident → Puts
name_places x rest = Some x.place ∷ rest

abbrev pub types_places : List TypeTree → Puts
types_places ts rest = some_onto (all_places (map ty_places ts)) rest

-- of what a method is called on, and of the types before its name
abbrev pub called_places : Option Puts → List TypeTree → Puts
called_places None ts rest = rest
called_places (Some f) ts rest = f (types_places ts rest)

-- of the name that a method reference ends with, and none of a `new` there
abbrev pub name_or_new : Option Ident → Puts
name_or_new None rest = no_place (keyword (codes "new")) rest
name_or_new (Some x) rest = name_places x rest

abbrev pub expr_step : Expression-F Puts Puts Puts Puts Puts Puts Puts Puts Puts Puts Puts Puts → Puts
expr_step (expression.Assign a op b) rest = a.value (b.value rest)
expr_step (expression.Conditional a b c) rest = a.value (b.value (c.value rest))
expr_step (expression.Binary a op b) rest = a.value (b.value rest)
expr_step (expression.InstanceOf a) rest = a.value rest
expr_step (expression.Prefix op a) rest = a.value rest
expr_step (expression.Cast a) rest = a.value rest
expr_step (expression.Postfix a op) rest = a.value rest
expr_step (expression.Literal k text) rest = rest
expr_step expression.This rest = rest
expr_step (expression.Name x) rest = name_places x rest
expr_step (expression.Paren a) rest = a.value rest
expr_step (expression.Field a x) rest = a.value (name_places x rest)
expr_step (expression.Index a i) rest = a.value (i.value rest)
expr_step (expression.Call c) rest = c.value rest
expr_step (expression.ClassOf xs) rest = each_puts (map name_places xs.items) rest
expr_step (expression.New n) rest = n.value rest
expr_step (expression.Lambda l) rest = l.value rest
expr_step (expression.Reference r) rest = r.value rest
expr_step (expression.PlainClass t) rest = some_onto (ty_places t) rest
expr_step (expression.ThisOf xs) rest = each_puts (map name_places xs.items) rest

abbrev pub behind_step : LambdaBody-F Puts Puts Puts Puts Puts Puts Puts Puts Puts Puts Puts Puts → Puts
behind_step (expression.Gives a) rest = a rest
behind_step (expression.Block block) rest = no_places block rest

abbrev pub made_step : Made-F Puts Puts Puts Puts Puts Puts Puts Puts Puts Puts Puts Puts → Puts
made_step (expression.Object all) rest = each_puts all.items rest
made_step (expression.Anonymous all body) rest = each_puts all.items (no_places body rest)
made_step (expression.Array lengths n) rest = each_puts lengths.items rest
made_step (expression.Filled n items) rest = items rest

abbrev pub before_step : Referred-F Puts Puts Puts Puts Puts Puts Puts Puts Puts Puts Puts Puts → Puts
before_step (expression.Of a) rest = a rest
before_step (expression.Type t) rest = some_onto (ty_places t) rest
before_step expression.Super rest = rest

abbrev pub init_step : Initialiser-F Puts Puts Puts Puts Puts Puts Puts Puts Puts Puts Puts Puts → Puts
init_step (expression.Value e) rest = e rest
init_step (expression.Items items) rest = items rest

abbrev pub array_step : ArrayTree-F Puts Puts Puts Puts Puts Puts Puts Puts Puts Puts Puts Puts → Puts
array_step a rest = each_puts a.items.items rest

abbrev pub call_step : CallTree-F Puts Puts Puts Puts Puts Puts Puts Puts Puts Puts Puts Puts → Puts
call_step c rest =
    called_places (option_map (λ b. b.value) c.receiver) c.types (name_places c.name (each_puts c.arguments.items rest))

abbrev pub cast_step : CastTree-F Puts Puts Puts Puts Puts Puts Puts Puts Puts Puts Puts Puts → Puts
cast_step c rest = types_places c.types (c.value rest)

abbrev pub instance_step : InstanceTree-F Puts Puts Puts Puts Puts Puts Puts Puts Puts Puts Puts Puts → Puts
instance_step i rest = i.value (some_onto (ty_places i.kind) rest)

abbrev pub lambda_step : LambdaTree-F Puts Puts Puts Puts Puts Puts Puts Puts Puts Puts Puts Puts → Puts
lambda_step l rest = no_places l.parameters (l.body rest)

abbrev pub new_step : NewTree-F Puts Puts Puts Puts Puts Puts Puts Puts Puts Puts Puts Puts → Puts
new_step n rest = Some n.place ∷ some_onto (ty_places n.kind) (n.made rest)

abbrev pub reference_step : ReferenceTree-F Puts Puts Puts Puts Puts Puts Puts Puts Puts Puts Puts Puts → Puts
reference_step r rest = r.of (types_places r.types (name_or_new r.name rest))

abbrev pub expr_places : Expression → Puts
expr_places = fold-Expression Puts Puts Puts Puts Puts Puts Puts Puts Puts Puts Puts Puts
    expr_step init_step behind_step made_step before_step array_step call_step cast_step
    instance_step lambda_step new_step reference_step

abbrev pub init_places : Initialiser → Puts
init_places = fold-Initialiser Puts Puts Puts Puts Puts Puts Puts Puts Puts Puts Puts Puts
    expr_step init_step behind_step made_step before_step array_step call_step cast_step
    instance_step lambda_step new_step reference_step

abbrev pub behind_places : LambdaBody → Puts
behind_places = fold-LambdaBody Puts Puts Puts Puts Puts Puts Puts Puts Puts Puts Puts Puts
    expr_step init_step behind_step made_step before_step array_step call_step cast_step
    instance_step lambda_step new_step reference_step

abbrev pub made_places : Made → Puts
made_places = fold-Made Puts Puts Puts Puts Puts Puts Puts Puts Puts Puts Puts Puts
    expr_step init_step behind_step made_step before_step array_step call_step cast_step
    instance_step lambda_step new_step reference_step

abbrev pub before_places : Referred → Puts
before_places = fold-Referred Puts Puts Puts Puts Puts Puts Puts Puts Puts Puts Puts Puts
    expr_step init_step behind_step made_step before_step array_step call_step cast_step
    instance_step lambda_step new_step reference_step

abbrev pub array_places : ArrayTree → Puts
array_places = fold-ArrayTree Puts Puts Puts Puts Puts Puts Puts Puts Puts Puts Puts Puts
    expr_step init_step behind_step made_step before_step array_step call_step cast_step
    instance_step lambda_step new_step reference_step

abbrev pub call_places : CallTree → Puts
call_places = fold-CallTree Puts Puts Puts Puts Puts Puts Puts Puts Puts Puts Puts Puts
    expr_step init_step behind_step made_step before_step array_step call_step cast_step
    instance_step lambda_step new_step reference_step

abbrev pub cast_places : CastTree → Puts
cast_places = fold-CastTree Puts Puts Puts Puts Puts Puts Puts Puts Puts Puts Puts Puts
    expr_step init_step behind_step made_step before_step array_step call_step cast_step
    instance_step lambda_step new_step reference_step

abbrev pub instance_places : InstanceTree → Puts
instance_places = fold-InstanceTree Puts Puts Puts Puts Puts Puts Puts Puts Puts Puts Puts Puts
    expr_step init_step behind_step made_step before_step array_step call_step cast_step
    instance_step lambda_step new_step reference_step

abbrev pub lambda_places : LambdaTree → Puts
lambda_places = fold-LambdaTree Puts Puts Puts Puts Puts Puts Puts Puts Puts Puts Puts Puts
    expr_step init_step behind_step made_step before_step array_step call_step cast_step
    instance_step lambda_step new_step reference_step

abbrev pub new_places : NewTree → Puts
new_places = fold-NewTree Puts Puts Puts Puts Puts Puts Puts Puts Puts Puts Puts Puts
    expr_step init_step behind_step made_step before_step array_step call_step cast_step
    instance_step lambda_step new_step reference_step

abbrev pub reference_places : ReferenceTree → Puts
reference_places = fold-ReferenceTree Puts Puts Puts Puts Puts Puts Puts Puts Puts Puts Puts Puts
    expr_step init_step behind_step made_step before_step array_step call_step cast_step
    instance_step lambda_step new_step reference_step

-- ---- statements (JLS 14)

abbrev pub variable_places : VariableTree → Puts
variable_places v rest = name_places v.name (maybe_puts (option_map init_places v.initialiser) rest)

abbrev pub locals_places : LocalsTree → Puts
locals_places l rest =
    each_marks modifier_marks l.modifiers (some_onto (ty_places l.kind)
    (each_puts (map variable_places l.variables) rest))

abbrev pub start_places : StartTree → Puts
start_places (start.Local l) rest = locals_places l rest
start_places (start.Expressions all) rest = each_puts (map expr_places all) rest

abbrev pub resource_places : ResourceTree → Puts
resource_places r rest =
    each_marks modifier_marks r.modifiers (some_onto (ty_places r.kind) (name_places r.name
    (expr_places r.value rest)))

abbrev pub resources_places : ResourcesTree → Puts
resources_places rs rest = each_puts (map resource_places rs.items) rest

abbrev pub catch_parameter_places : CatchParameterTree → Puts
catch_parameter_places p rest =
    each_marks modifier_marks p.modifiers (types_places p.types (name_places p.name rest))

abbrev pub label_places : LabelTree → Puts
label_places (label.Case e) rest = expr_places e rest
label_places label.Default rest = rest

-- the tokens behind the first name
abbrev pub behind_name : List Spelled → List Spelled
behind_name [] = []
behind_name (t ∷ ts) = if is_word_name t then ts else behind_name ts

abbrev pub stmt_step : Statement-F Puts Puts Puts Puts → Puts
stmt_step (statement.Block ss) rest = each_puts ss.items rest
stmt_step (statement.Local l) rest = locals_places l rest
stmt_step (statement.Expr e) rest = expr_places e rest
stmt_step (statement.If e s t) rest = expr_places e (s.value (maybe_puts (option_map (λ b. b.value) t) rest))
stmt_step (statement.While e s) rest = expr_places e (s.value rest)
stmt_step (statement.For i condition updates s) rest =
    start_places i (maybe_puts (option_map expr_places condition) (each_puts (map expr_places updates.items)
    (s.value rest)))
stmt_step (statement.ForEach v e s) rest =
    each_marks modifier_marks v.modifiers (some_onto (ty_places v.kind) (name_places v.name
    (expr_places e (s.value rest))))
stmt_step (statement.Sync place e ss) rest = Some place ∷ expr_places e (each_puts ss.items rest)
stmt_step (statement.Return e) rest = maybe_puts (option_map expr_places e) rest
stmt_step statement.Empty rest = rest
stmt_step (statement.Do s e) rest = s.value (expr_places e rest)
stmt_step (statement.Throw place e) rest = Some place ∷ expr_places e rest
stmt_step (statement.Break x) rest = maybe_puts (option_map name_places x) rest
stmt_step (statement.Continue x) rest = maybe_puts (option_map name_places x) rest
stmt_step (statement.Labelled x s) rest = name_places x (s.value rest)
stmt_step (statement.Assert e f) rest = expr_places e (maybe_puts (option_map expr_places f) rest)
stmt_step (statement.LocalClass x ts) rest = name_places x (no_places (behind_name ts) rest)
stmt_step (statement.Switch e gs) rest = expr_places e (each_puts gs.items rest)
stmt_step (statement.Try t) rest = t.value rest

abbrev pub try_step : TryTree-F Puts Puts Puts Puts → Puts
try_step t rest =
    maybe_puts (option_map resources_places t.resources) (each_puts t.body.items (each_puts t.clauses.items
    (maybe_puts (option_map (λ ss. each_puts ss.items) t.finally) rest)))

abbrev pub catch_step : CatchTree-F Puts Puts Puts Puts → Puts
catch_step c rest = catch_parameter_places c.parameter (each_puts c.body.items rest)

abbrev pub group_step : GroupTree-F Puts Puts Puts Puts → Puts
group_step g rest = each_puts (map label_places g.labels) (each_puts g.body.items rest)

abbrev pub stmt_places : Statement → Puts
stmt_places = fold-Statement Puts Puts Puts Puts stmt_step catch_step group_step try_step

abbrev pub try_places : TryTree → Puts
try_places = fold-TryTree Puts Puts Puts Puts stmt_step catch_step group_step try_step

abbrev pub catch_places : CatchTree → Puts
catch_places = fold-CatchTree Puts Puts Puts Puts stmt_step catch_step group_step try_step

abbrev pub group_places : GroupTree → Puts
group_places = fold-GroupTree Puts Puts Puts Puts stmt_step catch_step group_step try_step
