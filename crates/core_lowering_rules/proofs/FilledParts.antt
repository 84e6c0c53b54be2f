-- Parts of statements are made from those without places, and the places that are kept.
use Rattle.std.proofs.Common.{◌≡◌, ℕ, Bool, false, List, [], ◌∷◌, Option, Some, None, map, refl, ap, ◌∙◌, rules}
use Rattle.std.specs.Prelude.{option_map}
use Rattle.java_tree.specs.declared.statements.ResourceTree.{ResourceTree}
use Rattle.java_tree.specs.declared.statements.ResourcesTree.{ResourcesTree}
use Rattle.java_tree.specs.declared.statements.LabelTree.{LabelTree}
use Rattle.java_tree.specs.declared.statements.LabelTree.TheVariants as labels
use Rattle.java_tree.specs.declared.words.Spelled.{Spelled}
use Rattle.java_tree.specs.declared.words.Ident.{Ident}
use Rattle.java_tree.specs.declared.expressions.Expression.{Expression, out-Expression, map-Expression}
use Rattle.java_tree.specs.declared.expressions.Initialiser.{Initialiser}
use Rattle.java_tree.specs.declared.expressions.LambdaBody.{LambdaBody}
use Rattle.java_tree.specs.declared.expressions.Made.{Made, out-Made, map-Made}
use Rattle.java_tree.specs.declared.expressions.Referred.{Referred}
use Rattle.java_tree.specs.declared.expressions.ArrayTree.{ArrayTree}
use Rattle.java_tree.specs.declared.expressions.CallTree.{CallTree, out-CallTree}
use Rattle.java_tree.specs.declared.expressions.CastTree.{CastTree}
use Rattle.java_tree.specs.declared.expressions.InstanceTree.{InstanceTree}
use Rattle.java_tree.specs.declared.expressions.LambdaTree.{LambdaTree, out-LambdaTree}
use Rattle.java_tree.specs.declared.expressions.NewTree.{NewTree, out-NewTree}
use Rattle.java_tree.specs.declared.expressions.ReferenceTree.{ReferenceTree, out-ReferenceTree}
use Rattle.java_tree.specs.declared.expressions.Expression.TheOpen as expression
use Rattle.java_tree.specs.declared.expressions.Expression.TheFolds.{the_lemmas}
use Rattle.java_tree.specs.declared.statements.VariableTree.{VariableTree}
use Rattle.java_tree.specs.declared.statements.LocalsTree.{LocalsTree}
use Rattle.java_tree.specs.declared.statements.StartTree.{StartTree}
use Rattle.java_tree.specs.declared.statements.StartTree.TheVariants as starts
use Rattle.java_tree.specs.KeptPlaces.{Marks, some_onto, modifier_marks}
use Rattle.java_tree.specs.KeptPlaces.{each_puts, maybe_puts, expr_places, init_places}
use Rattle.java_tree.specs.KeptPlaces.{variable_places, locals_places, start_places}
use Rattle.java_tree.specs.KeptPlaces.{ty_places, name_places, resource_places, resources_places, label_places}
use Rattle.java_tree.specs.Trees.{Ty, Arguments}
use Rattle.java_tree.specs.Trees as view
use Rattle.java_tree.specs.View.{ty_of, name_of}
use Rattle.java_tree.specs.View as viewed
use Rattle.core_lowering_rules.specs.Conditions.{kept_of}
use Rattle.core_lowering_rules.proofs.KeptMarks.{each-passed, modifier-passed}
use Rattle.core_lowering_rules.specs.Trees.{Variable, Declares, Runs, Resource}
use Rattle.core_lowering_rules.specs.Trees.{expr_then}
use Rattle.core_lowering_rules.specs.Trees.{Expr, pack_exprs}
use Rattle.core_lowering_rules.specs.TreesOf.{expr_of, init_of, condition_of, is_true_in, variable_of, start_of}
use Rattle.core_lowering_rules.specs.TreesOf.{resource_of, resources_of, label_of}
use Rattle.core_lowering_rules.proofs.TreeLayers.{Plain}
use Rattle.core_lowering_rules.proofs.FilledTrees.{ident, one, behind}
use Rattle.core_lowering_rules.proofs.FilledTrees.{filled, one-is, two-is, expr, exprs, init}
use Rattle.core_lowering_rules.proofs.FilledTrees.{each, maybe, begun, variable, variables, start}
use Rattle.core_lowering_rules.proofs.FilledTrees.{is_true_seen, tested, condition, named, resourced}
use Rattle.core_lowering_rules.proofs.FilledTrees.{resource, resources, label}
use Rattle.core_lowering_rules.proofs.FilledExpressions.{type-behind, expr-is, init-is}

-- ---- parts of statements

pub some-filled : (o : Option Expression) (rest : Marks)
    → maybe expr (option_map viewed.expr_of o) (kept_of (maybe_puts (option_map expr_places o) rest))
    ≡ filled (option_map expr_of o) (kept_of rest)
some-filled None rest = refl
some-filled (Some e) rest = one-is Some (expr-is e rest)

begin-filled : (o : Option Initialiser) (rest : Marks)
    → maybe init (option_map viewed.init_of o) (kept_of (maybe_puts (option_map init_places o) rest))
    ≡ filled (option_map init_of o) (kept_of rest)
begin-filled None rest = refl
begin-filled (Some i) rest = one-is Some (init-is i rest)

pub all-filled : (es : List Expression) (rest : Marks)
    → exprs (view.pack_exprs (map viewed.expr_of es)) (kept_of (each_puts (map expr_places es) rest))
    ≡ filled (pack_exprs (map expr_of es)) (kept_of rest)
all-filled [] rest = refl
all-filled (e ∷ es) rest =
    two-is expr_then (exprs (view.pack_exprs (map viewed.expr_of es))) (expr-is e (each_puts (map expr_places es) rest))
    (all-filled es rest)

variable-filled : (v : VariableTree) (rest : Marks)
    → variable (viewed.variable_of v) (kept_of (variable_places v rest)) ≡ filled (variable_of v) (kept_of rest)
variable-filled v rest = one-is (begun v.name v.arrays) (begin-filled v.initialiser rest)

each-filled : (vs : List VariableTree) (rest : Marks)
    → each variable (map viewed.variable_of vs) (kept_of (each_puts (map variable_places vs) rest))
    ≡ filled (map variable_of vs) (kept_of rest)
each-filled [] rest = refl
each-filled (v ∷ vs) rest =
    two-is (λ (y : Variable) ys. y ∷ ys) (each variable (map viewed.variable_of vs))
    (variable-filled v (each_puts (map variable_places vs) rest)) (each-filled vs rest)

pub locals-filled : (l : LocalsTree) (rest : Marks)
    → variables (viewed.locals_of l) (kept_of (locals_places l rest))
    ≡ filled (map variable_of l.variables) (kept_of rest)
locals-filled l rest =
    let from = each_puts (map variable_places l.variables) rest in
    ap (variables (viewed.locals_of l))
    (each-passed modifier_marks modifier-passed l.modifiers (some_onto (ty_places l.kind) from))
    ∙ type-behind l.kind (each variable (map viewed.variable_of l.variables)) from (each-filled l.variables rest)

pub start-filled : (i : StartTree) (rest : Marks)
    → start (viewed.start_of i) (kept_of (start_places i rest)) ≡ filled (start_of i) (kept_of rest)
start-filled (starts.Local l) rest = one-is (Declares (ty_of l.kind)) (locals-filled l rest)
start-filled (starts.Expressions all) rest = one-is Runs (all-filled all rest)

-- ---- conditions, names, resources and labels

-- the tree without places tells whether it is the literal `true`
call-untold : (on : Option view.Expr) (types : Option Arguments) (x : List ℕ) (all : List view.Expr)
    → is_true_seen (viewed.call_of on types x all) ≡ false
call-untold None types x all = refl
call-untold (Some a) types x all = refl

lambda-untold : (ps : List Spelled) (b : viewed.Behind) → is_true_seen (viewed.lambda_of ps b) ≡ false
lambda-untold ps (viewed.Gives a) = refl
lambda-untold ps (viewed.Does block) = refl

reference-untold : (b : viewed.Before) (types : Option Arguments) (x : Option (List ℕ))
    → is_true_seen (viewed.reference_of b types x) ≡ false
reference-untold (viewed.OfExpr a) types x = refl
reference-untold (viewed.OfType t) types x = refl
reference-untold viewed.OfSuper types x = refl

call-form : (c : CallTree)
    → viewed.call_tree_of c
    ≡ viewed.call_of (option_map (λ b. viewed.expr_of b.value) (out-CallTree c).receiver)
    (viewed.types_of (out-CallTree c).types (out-CallTree c).glued) (name_of (out-CallTree c).name)
    (map viewed.expr_of (out-CallTree c).arguments.items)
call-form c = search (rules, the_lemmas)

call-seen : (c : CallTree) → is_true_seen (viewed.call_tree_of c) ≡ false
call-seen c =
    ap is_true_seen (call-form c)
    ∙ call-untold (option_map (λ b. viewed.expr_of b.value) (out-CallTree c).receiver)
    (viewed.types_of (out-CallTree c).types (out-CallTree c).glued) (name_of (out-CallTree c).name)
    (map viewed.expr_of (out-CallTree c).arguments.items)

cast-seen : (c : CastTree) → is_true_seen (viewed.cast_tree_of c) ≡ false
cast-seen c = search (rules, the_lemmas)

instance-seen : (i : InstanceTree) → is_true_seen (viewed.instance_tree_of i) ≡ false
instance-seen i = search (rules, the_lemmas)

lambda-form : (l : LambdaTree)
    → viewed.lambda_tree_of l
    ≡ viewed.lambda_of (out-LambdaTree l).parameters (viewed.behind_of (out-LambdaTree l).body)
lambda-form l = search (rules, the_lemmas)

lambda-seen : (l : LambdaTree) → is_true_seen (viewed.lambda_tree_of l) ≡ false
lambda-seen l =
    ap is_true_seen (lambda-form l)
    ∙ lambda-untold (out-LambdaTree l).parameters (viewed.behind_of (out-LambdaTree l).body)

abbrev MadeLayer : Type 0
MadeLayer =
    expression.Made-F view.Expr view.Init viewed.Behind viewed.OfTy viewed.Before view.Array view.Expr view.Expr
    view.Expr view.Expr view.Expr view.Expr

made-untold : (y : MadeLayer) (t : Ty) → is_true_seen (viewed.made_step y t) ≡ false
made-untold (expression.Object all) t = refl
made-untold (expression.Anonymous all body) t = refl
made-untold (expression.Array lengths n) t = refl
made-untold (expression.Filled n items) t = refl

abbrev made_in : Made → MadeLayer
made_in m =
    map-Made
    Expression Initialiser LambdaBody Made Referred ArrayTree CallTree CastTree InstanceTree LambdaTree NewTree
    ReferenceTree view.Expr view.Init viewed.Behind viewed.OfTy viewed.Before view.Array view.Expr view.Expr view.Expr
    view.Expr view.Expr view.Expr viewed.expr_of viewed.init_of viewed.behind_of viewed.made_of viewed.before_of
    viewed.array_of viewed.call_tree_of viewed.cast_tree_of viewed.instance_tree_of viewed.lambda_tree_of
    viewed.new_tree_of viewed.reference_tree_of
    (out-Made m)

made-form : (m : Made) → viewed.made_of m ≡ viewed.made_step (made_in m)
made-form m = search (rules, the_lemmas)

new-form : (n : NewTree)
    → viewed.new_tree_of n ≡ viewed.made_of (out-NewTree n).made (ty_of (out-NewTree n).kind)
new-form n = search (rules, the_lemmas)

new-seen : (n : NewTree) → is_true_seen (viewed.new_tree_of n) ≡ false
new-seen n =
    let t = ty_of (out-NewTree n).kind in
    ap is_true_seen (new-form n)
    ∙ ap (λ (f : viewed.OfTy). is_true_seen (f t)) (made-form (out-NewTree n).made)
    ∙ made-untold (made_in (out-NewTree n).made) t

reference-form : (r : ReferenceTree)
    → viewed.reference_tree_of r
    ≡ viewed.reference_of (viewed.before_of (out-ReferenceTree r).of)
    (viewed.types_of (out-ReferenceTree r).types (out-ReferenceTree r).glued)
    (option_map name_of (out-ReferenceTree r).name)
reference-form r = search (rules, the_lemmas)

reference-seen : (r : ReferenceTree) → is_true_seen (viewed.reference_tree_of r) ≡ false
reference-seen r =
    ap is_true_seen (reference-form r)
    ∙ reference-untold (viewed.before_of (out-ReferenceTree r).of)
    (viewed.types_of (out-ReferenceTree r).types (out-ReferenceTree r).glued)
    (option_map name_of (out-ReferenceTree r).name)

abbrev seen_in : Plain → view.Expr
seen_in x =
    viewed.expr_step
    (map-Expression
    Expression Initialiser LambdaBody Made Referred ArrayTree CallTree CastTree InstanceTree LambdaTree NewTree
    ReferenceTree view.Expr view.Init viewed.Behind viewed.OfTy viewed.Before view.Array view.Expr view.Expr view.Expr
    view.Expr view.Expr view.Expr viewed.expr_of viewed.init_of viewed.behind_of viewed.made_of viewed.before_of
    viewed.array_of viewed.call_tree_of viewed.cast_tree_of viewed.instance_tree_of viewed.lambda_tree_of
    viewed.new_tree_of viewed.reference_tree_of
    x)

true-seen : (x : Plain) → is_true_seen (seen_in x) ≡ is_true_in x
true-seen (expression.Assign a op b) = refl
true-seen (expression.Conditional a b c) = refl
true-seen (expression.Binary a op b) = refl
true-seen (expression.InstanceOf a) = instance-seen a.value
true-seen (expression.Prefix op a) = refl
true-seen (expression.Cast a) = cast-seen a.value
true-seen (expression.Postfix a op) = refl
true-seen (expression.Literal k text) = refl
true-seen expression.This = refl
true-seen (expression.Name x) = refl
true-seen (expression.Paren a) = refl
true-seen (expression.Field a x) = refl
true-seen (expression.Index a i) = refl
true-seen (expression.Call c) = call-seen c.value
true-seen (expression.ClassOf xs) = refl
true-seen (expression.New n) = new-seen n.value
true-seen (expression.Lambda l) = lambda-seen l.value
true-seen (expression.Reference r) = reference-seen r.value
true-seen (expression.PlainClass t) = refl
true-seen (expression.ThisOf xs) = refl

true-told : (e : Expression) → is_true_seen (viewed.expr_of e) ≡ is_true_in (out-Expression e)
true-told e =
    let form : viewed.expr_of e ≡ seen_in (out-Expression e) = search (rules, the_lemmas) in
    ap is_true_seen form ∙ true-seen (out-Expression e)

pub condition-is : (e : Expression) (rest : Marks)
    → condition (viewed.expr_of e) (kept_of (expr_places e rest)) ≡ filled (condition_of e) (kept_of rest)
condition-is e rest =
    ap (λ (b : Bool). one (tested b) (expr (viewed.expr_of e) (kept_of (expr_places e rest)))) (true-told e)
    ∙ one-is (tested (is_true_in (out-Expression e))) (expr-is e rest)

pub maybe-condition : (o : Option Expression) (rest : Marks)
    → maybe condition (option_map viewed.expr_of o) (kept_of (maybe_puts (option_map expr_places o) rest))
    ≡ filled (option_map condition_of o) (kept_of rest)
maybe-condition None rest = refl
maybe-condition (Some e) rest = one-is Some (condition-is e rest)

pub name-filled : (o : Option Ident) (rest : Marks)
    → maybe named (option_map viewed.name_of o) (kept_of (maybe_puts (option_map name_places o) rest))
    ≡ filled o (kept_of rest)
name-filled None rest = refl
name-filled (Some x) rest = refl

resource-filled : (r : ResourceTree) (rest : Marks)
    → resource (viewed.resource_of r) (kept_of (resource_places r rest)) ≡ filled (resource_of r) (kept_of rest)
resource-filled r rest =
    let from = name_places r.name (expr_places r.value rest) in
    ap (resource (viewed.resource_of r))
    (each-passed modifier_marks modifier-passed r.modifiers (some_onto (ty_places r.kind) from))
    ∙ type-behind r.kind
    (λ ps. one (resourced (ty_of r.kind) (ident r.name.text ps)) (expr (viewed.expr_of r.value) (behind ps)))
    from (one-is (resourced (ty_of r.kind) r.name) (expr-is r.value rest))

resource-list : (rs : List ResourceTree) (rest : Marks)
    → each resource (map viewed.resource_of rs) (kept_of (each_puts (map resource_places rs) rest))
    ≡ filled (map resource_of rs) (kept_of rest)
resource-list [] rest = refl
resource-list (r ∷ rs) rest =
    two-is (λ (y : Resource) ys. y ∷ ys) (each resource (map viewed.resource_of rs))
    (resource-filled r (each_puts (map resource_places rs) rest)) (resource-list rs rest)

pub resources-filled : (o : Option ResourcesTree) (rest : Marks)
    → resources (option_map viewed.resources_of o) (kept_of (maybe_puts (option_map resources_places o) rest))
    ≡ filled (resources_of o) (kept_of rest)
resources-filled None rest = refl
resources-filled (Some rs) rest = resource-list rs.items rest

label-filled : (l : LabelTree) (rest : Marks)
    → label (viewed.label_of l) (kept_of (label_places l rest)) ≡ filled (label_of l) (kept_of rest)
label-filled (labels.Case e) rest = one-is Some (expr-is e rest)
label-filled labels.Default rest = refl

pub labels-filled : (ls : List LabelTree) (rest : Marks)
    → each label (map viewed.label_of ls) (kept_of (each_puts (map label_places ls) rest))
    ≡ filled (map label_of ls) (kept_of rest)
labels-filled [] rest = refl
labels-filled (l ∷ ls) rest =
    two-is (λ (y : Option Expr) ys. y ∷ ys) (each label (map viewed.label_of ls))
    (label-filled l (each_puts (map label_places ls) rest)) (labels-filled ls rest)
