-- The tree that is lowered is made from the tree without places, and the places that are kept.
use Rattle.std.proofs.Common.{◌≡◌, List, [], ◌∷◌, ◌++◌, Option, Some, None, map, refl, ap, ◌∙◌}
use Rattle.std.proofs.Common.{append_assoc, codes, ℕ, Bool, length, arith, Box, Vec, Global}
use Rattle.std.specs.Prelude.{option_map}
use Rattle.std.proofs.lemmas.List.{length-append}
use Rattle.racer_base.specs.declared.ids.Place.{Place}
use Rattle.java_tree.specs.declared.words.Ident.{Ident}
use Rattle.java_tree.specs.declared.types.TypeTree.{TypeTree}
use Rattle.java_tree.specs.declared.expressions.Expression.{Expression}
use Rattle.java_tree.specs.declared.expressions.Initialiser.{Initialiser}
use Rattle.java_tree.specs.declared.expressions.Expression.TheOpen as expression
use Rattle.java_tree.specs.declared.words.Spelled.{Spelled}
use Rattle.java_tree.specs.KeptPlaces.{Places, Marks, each_puts, name_places, ty_places, expr_places, init_places}
use Rattle.java_tree.specs.KeptPlaces.{array_places, behind_places, before_places, types_places}
use Rattle.java_tree.specs.KeptPlaces.{all_places, some_onto, no_places, name_or_new}
use Rattle.java_tree.specs.Words.{keyword}
use Rattle.java_tree.specs.Trees.{Arguments, pack_arguments, Exact}
use Rattle.core_lowering_rules.specs.Conditions.{kept_of}
use Rattle.core_lowering_rules.proofs.KeptMarks.{some-kept, token-passed, tokens-passed}
use Rattle.java_tree.specs.Trees as view
use Rattle.java_tree.specs.View.{ty_of, name_of, types_of}
use Rattle.java_tree.specs.View as viewed
use Rattle.java_tree.proofs.TypeCounts.{ty_count, ty_counts, arguments_count}
use Rattle.core_lowering_rules.specs.Trees.{Expr, ClassOf, Read, Unary, Cast, Conditional, Count, Call}
use Rattle.core_lowering_rules.specs.Trees.{CallOn}
use Rattle.core_lowering_rules.specs.Trees.{NewBody, ThisOf, Refer, ToExpr, ToType, Unknown}
use Rattle.core_lowering_rules.specs.Trees.{New, NewArray, NewItems, Paren, Selected, Element, expr_then, init_then}
use Rattle.core_lowering_rules.specs.Trees.{Value}
use Rattle.core_lowering_rules.specs.Trees.{Items, pack_exprs, pack_inits}
use Rattle.core_lowering_rules.specs.TreesOf.{access_of, assignment, binary, prefix, expr_of, init_of, first_type}
use Rattle.core_lowering_rules.specs.TreesOf.{referred_of}
use Rattle.core_lowering_rules.specs.Trees as tree
use Rattle.core_lowering_rules.proofs.TreeLayers.{TreeFact, HasExpr, HasInit, Exprs, Initialisers, Layer, InitLayer}
use Rattle.core_lowering_rules.proofs.TreeLayers.{BehindLayer, MadeLayer, BeforeLayer, CallLayer, CastLayer}
use Rattle.core_lowering_rules.proofs.TreeLayers.{InstanceLayer, LambdaLayer, ReferenceLayer}
use Rattle.core_lowering_rules.proofs.TreeSteps.{OfLayer, OfInitLayer, OfBehindLayer, OfMadeLayer, OfBeforeLayer}
use Rattle.core_lowering_rules.proofs.TreeSteps.{OfCallLayer, OfCastLayer, OfInstanceLayer, OfLambdaLayer}
use Rattle.core_lowering_rules.proofs.TreeSteps.{OfReferenceLayer, TreeSteps, plain_inits, expr-all, init-all}
use Rattle.core_lowering_rules.proofs.FilledTrees.{Filled, filled, skip, skip-is, one-is, two-is, three-is}
use Rattle.core_lowering_rules.proofs.FilledTrees.{passing-is, filled_names, then_name, called, expr, exprs, array}
use Rattle.core_lowering_rules.proofs.FilledTrees.{inits, init, one, gives, referred, refers, skip_types}
use Rattle.core_lowering_rules.proofs.FilledTrees.{first_seen, skip_angled, skip_name, behind_angled}

abbrev pub filling : TreeFact
filling =
    record {
      OfExpr = λ v puts t. (rest : Marks) → expr v (kept_of (puts rest)) ≡ filled t (kept_of rest);
      OfInit = λ v puts t. (rest : Marks) → init v (kept_of (puts rest)) ≡ filled t (kept_of rest);
      OfBehind = λ v puts t. (rest : Marks) → gives v (kept_of (puts rest)) ≡ filled Unknown (kept_of rest);
      OfMade = λ v puts made. (place : Place) (t : TypeTree) (rest : Marks) →
          expr (v (ty_of t)) (place ∷ kept_of (some_onto (ty_places t) (puts rest)))
          ≡ filled (made place (ty_of t)) (kept_of rest);
      OfBefore = λ v puts t. (rest : Marks) → referred v (kept_of (puts rest)) ≡ filled t (kept_of rest);
      OfArray = λ v puts t. (rest : Marks) → array v (kept_of (puts rest)) ≡ filled t (kept_of rest);
    }

pub behind-type : {A : Type 0} (t : TypeTree) (h : Places → Filled A) (ps : Places) {a : A} {rest : Places}
    → h ps ≡ filled a rest → h (skip (ty_count (ty_of t)) (ty_places t ++ ps)) ≡ filled a rest
behind-type t h ps e = ap h (skip-is (ty_places t) ps (ty_count (ty_of t)) (ty_counts t)) ∙ e

-- a type of which the places are among marks
pub type-behind : {A : Type 0} (t : TypeTree) (h : Places → Filled A) (rest : Marks) {a : A} {left : Places}
    → h (kept_of rest) ≡ filled a left
    → h (skip (ty_count (ty_of t)) (kept_of (some_onto (ty_places t) rest))) ≡ filled a left
type-behind t h rest e =
    ap (λ ps. h (skip (ty_count (ty_of t)) ps)) (some-kept (ty_places t) rest) ∙ behind-type t h (kept_of rest) e

pub types-behind : (ts : List TypeTree) (ps : Places)
    → skip_types (map ty_of ts) (all_places (map ty_places ts) ++ ps) ≡ ps
types-behind [] ps = refl
types-behind (t ∷ ts) ps =
    let others = all_places (map ty_places ts) in
    ap (λ qs. skip_types (map ty_of ts) (skip (ty_count (ty_of t)) qs)) (append_assoc (ty_places t) others ps)
    ∙ ap (λ (g : Filled Places). g.tree)
    (behind-type t (λ qs. filled (skip_types (map ty_of ts) qs) []) (others ++ ps)
    (ap (λ qs. filled qs []) (types-behind ts ps)))

pub types-passed : (ts : List TypeTree) (rest : Marks)
    → skip_types (map ty_of ts) (kept_of (types_places ts rest)) ≡ kept_of rest
types-passed ts rest =
    ap (skip_types (map ty_of ts)) (some-kept (all_places (map ty_places ts)) rest) ∙ types-behind ts (kept_of rest)

first-is : (ts : List TypeTree) → first_seen (map ty_of ts) ≡ first_type ts
first-is [] = refl
first-is (t ∷ ts) = refl

exact-counts : (ts : List TypeTree) → length (all_places (map ty_places ts))
    ≡ arguments_count (pack_arguments (map (λ u. Exact (ty_of u)) ts))
exact-counts [] = refl
exact-counts (t ∷ ts) =
    omega (arith, ty_counts t, exact-counts ts, length-append (ty_places t) (all_places (map ty_places ts)))

angled-passed : (ts : List TypeTree) (glued : Bool) (rest : Marks)
    → skip_angled (types_of ts glued) (kept_of (types_places ts rest)) ≡ kept_of rest
angled-passed [] glued rest = refl
angled-passed (t ∷ ts) glued rest =
    let count = arguments_count (pack_arguments (map (λ u. Exact (ty_of u)) (t ∷ ts))) in
    let places = all_places (map ty_places (t ∷ ts)) in
    ap (skip count) (some-kept places rest) ∙ skip-is places (kept_of rest) count (exact-counts (t ∷ ts))

name-passed : (x : Option Ident) (rest : Marks)
    → skip_name (option_map name_of x) (kept_of (name_or_new x rest)) ≡ kept_of rest
name-passed None rest = token-passed (keyword (codes "new")) rest
name-passed (Some x) rest = refl

names-filled : (xs : List Ident) (rest : Marks)
    → filled_names (map name_of xs) (kept_of (each_puts (map name_places xs) rest)) ≡ filled xs (kept_of rest)
names-filled [] rest = refl
names-filled (x ∷ xs) rest = one-is (λ (l : List Ident). x ∷ l) (names-filled xs rest)

pub name-behind : {A B : Type 0} (f : A → Ident → B) (x : Ident) {g : Filled A} {a : A} {rest : Places}
    → g ≡ filled a (x.place ∷ rest) → then_name f x.text g ≡ filled (f a x) rest
name-behind f x e = ap (then_name f x.text) e

abbrev plain_exprs : List (Exprs filling) → List Expression
plain_exprs es = map (λ e. e.0) es

exprs-filled : (es : List (Exprs filling)) (rest : Marks)
    → exprs (view.pack_exprs (map viewed.expr_of (plain_exprs es)))
    (kept_of (each_puts (map expr_places (plain_exprs es)) rest))
    ≡ filled (pack_exprs (map expr_of (plain_exprs es))) (kept_of rest)
exprs-filled [] rest = refl
exprs-filled (e ∷ es) rest =
    two-is expr_then (exprs (view.pack_exprs (map viewed.expr_of (plain_exprs es))))
    (e.1 (each_puts (map expr_places (plain_exprs es)) rest)) (exprs-filled es rest)

inits-filled : (is : List (Initialisers filling)) (rest : Marks)
    → inits (view.pack_inits (map viewed.init_of (plain_inits filling is)))
    (kept_of (each_puts (map init_places (plain_inits filling is)) rest))
    ≡ filled (pack_inits (map init_of (plain_inits filling is))) (kept_of rest)
inits-filled [] rest = refl
inits-filled (i ∷ is) rest =
    two-is init_then (inits (view.pack_inits (map viewed.init_of (plain_inits filling is))))
    (i.1 (each_puts (map init_places (plain_inits filling is)) rest)) (inits-filled is rest)

-- ---- lambdas and references

lambda-is : (tokens : List Spelled) (b : viewed.Behind) (ps : Places) → expr (viewed.lambda_of tokens b) ps ≡ gives b ps
lambda-is tokens (viewed.Gives a) ps = refl
lambda-is tokens (viewed.Does block) ps = refl

reference-is : (b : viewed.Before) (types : Option Arguments) (x : Option (List ℕ)) (ps : Places)
    → expr (viewed.reference_of b types x) ps ≡ refers types x (referred b ps)
reference-is (viewed.OfExpr a) types x ps = refl
reference-is (viewed.OfType t) types x ps = refl
reference-is viewed.OfSuper types x ps = refl

-- ---- one layer

-- the view of the child
abbrev of : Exprs filling → Places → Filled Expr
of a = expr (viewed.expr_of a.0)

abbrev all_of : List (Exprs filling) → Places → Filled tree.Exprs
all_of es = exprs (view.pack_exprs (map viewed.expr_of (plain_exprs es)))

expr-filled : (y : Layer filling) → OfLayer filling y
expr-filled (expression.Assign a op b) rest =
    two-is (λ x y. assignment op (access_of x) y) (of b.value) (a.value.1 (expr_places b.value.0 rest))
    (b.value.1 rest)
expr-filled (expression.Conditional a b c) rest =
    three-is Conditional (of b.value) (of c.value)
    (a.value.1 (expr_places b.value.0 (expr_places c.value.0 rest))) (b.value.1 (expr_places c.value.0 rest))
    (c.value.1 rest)
expr-filled (expression.Binary a op b) rest =
    two-is (binary op) (of b.value) (a.value.1 (expr_places b.value.0 rest)) (b.value.1 rest)
expr-filled (expression.InstanceOf a) rest = a.value.1 rest
expr-filled (expression.Prefix op a) rest = one-is (prefix op) (a.value.1 rest)
expr-filled (expression.Cast a) rest = a.value.1 rest
expr-filled (expression.Postfix a op) rest = one-is (λ x. Count (access_of x)) (a.value.1 rest)
expr-filled (expression.Literal k text) rest = refl
expr-filled expression.This rest = refl
expr-filled (expression.Name x) rest = refl
expr-filled (expression.Paren a) rest = one-is Paren (a.value.1 rest)
expr-filled (expression.Field a x) rest =
    name-behind (λ t i. Read (Selected t i)) x (a.value.1 (Some x.place ∷ rest))
expr-filled (expression.Index a i) rest =
    two-is (λ x y. Read (Element x y)) (of i.value) (a.value.1 (expr_places i.value.0 rest)) (i.value.1 rest)
expr-filled (expression.Call c) rest = c.value.1 rest
expr-filled (expression.ClassOf xs) rest = one-is ClassOf (names-filled xs.items rest)
expr-filled (expression.New n) rest = n.value.1 rest
expr-filled (expression.Lambda l) rest = l.value.1 rest
expr-filled (expression.Reference r) rest = r.value.1 rest
expr-filled (expression.PlainClass t) rest = type-behind t (filled Unknown) rest refl
expr-filled (expression.ThisOf xs) rest = one-is ThisOf (names-filled xs.items rest)

behind-filled : (y : BehindLayer filling) → OfBehindLayer filling y
behind-filled (expression.Gives a) rest = one-is (λ x. Unknown) (a.1 rest)
behind-filled (expression.Block block) rest = ap (filled Unknown) (tokens-passed block rest)

made-filled : (y : MadeLayer filling) → OfMadeLayer filling y
made-filled (expression.Object all) place t rest =
    one-is (New place (ty_of t))
    (type-behind t (all_of all.items) (each_puts (map expr_places (plain_exprs all.items)) rest)
    (exprs-filled all.items rest))
made-filled (expression.Anonymous all body) place t rest =
    let behind_all = no_places body rest in
    one-is (NewBody place (ty_of t))
    (type-behind t (all_of all.items) (each_puts (map expr_places (plain_exprs all.items)) behind_all)
    (exprs-filled all.items behind_all))
    ∙ ap (filled (NewBody place (ty_of t) (pack_exprs (map expr_of (plain_exprs all.items))))) (tokens-passed body rest)
made-filled (expression.Array lengths n) place t rest =
    one-is (NewArray place)
    (type-behind t (all_of lengths.items) (each_puts (map expr_places (plain_exprs lengths.items)) rest)
    (exprs-filled lengths.items rest))
made-filled (expression.Filled n items) place t rest =
    one-is (NewItems place)
    (type-behind t (array (viewed.array_of items.0)) (array_places items.0 rest) (items.1 rest))

before-filled : (y : BeforeLayer filling) → OfBeforeLayer filling y
before-filled (expression.Of a) rest = one-is ToExpr (a.1 rest)
before-filled (expression.Type t) rest = type-behind t (filled ToType) rest refl
before-filled expression.Super rest = refl

called-filled : (on : Option (Box (Exprs filling) Global)) (types : List TypeTree) (glued : Bool) (x : Ident)
    (all : Vec (Exprs filling) Global)
    → OfCallLayer filling (record { receiver = on; types = types; glued = glued; name = x; arguments = all })
called-filled None types glued x all rest = one-is (Call x) (exprs-filled all.items rest)
called-filled (Some a) types glued x all rest =
    let from = each_puts (map expr_places (plain_exprs all.items)) rest in
    ap (λ g. called (behind_angled (types_of types glued) g) x.text (all_of all.items))
    (a.value.1 (types_places types (Some x.place ∷ from)))
    ∙ ap (λ ps. called (filled (expr_of a.value.0) ps) x.text (all_of all.items))
    (angled-passed types glued (Some x.place ∷ from))
    ∙ one-is (CallOn (expr_of a.value.0) x) (exprs-filled all.items rest)

call-filled : (y : CallLayer filling) → OfCallLayer filling y
call-filled y = called-filled y.receiver y.types y.glued y.name y.arguments

cast-filled : (y : CastLayer filling) → OfCastLayer filling y
cast-filled y rest =
    let inside = expr_places y.value.0 rest in
    let left : Places = skip_types (map ty_of y.types) (kept_of (types_places y.types inside)) in
    ap (λ t. one (Cast t) (of y.value left)) (first-is y.types)
    ∙ one-is (Cast (first_type y.types)) (ap (of y.value) (types-passed y.types inside) ∙ y.value.1 rest)

instance-filled : (y : InstanceLayer filling) → OfInstanceLayer filling y
instance-filled y rest =
    passing-is (ty_count (ty_of y.kind)) (ty_places y.kind) (kept_of rest) (ty_counts y.kind)
    (one-is Unary (y.value.1 (some_onto (ty_places y.kind) rest))
    ∙ ap (filled (Unary (expr_of y.value.0))) (some-kept (ty_places y.kind) rest))

lambda-filled : (y : LambdaLayer filling) → OfLambdaLayer filling y
lambda-filled y rest =
    lambda-is y.parameters (viewed.behind_of y.body.0) (kept_of (no_places y.parameters (behind_places y.body.0 rest)))
    ∙ ap (gives (viewed.behind_of y.body.0)) (tokens-passed y.parameters (behind_places y.body.0 rest))
    ∙ y.body.1 rest

reference-filled : (y : ReferenceLayer filling) → OfReferenceLayer filling y
reference-filled y rest =
    let from = name_or_new y.name rest in
    let angled = types_of y.types y.glued in
    reference-is (viewed.before_of y.of.0) angled (option_map name_of y.name)
    (kept_of (before_places y.of.0 (types_places y.types from)))
    ∙ ap (refers angled (option_map name_of y.name)) (y.of.1 (types_places y.types from))
    ∙ ap (λ ps. filled (Refer (referred_of y.of.0)) (skip_name (option_map name_of y.name) ps))
    (angled-passed y.types y.glued from)
    ∙ ap (filled (Refer (referred_of y.of.0))) (name-passed y.name rest)

init-filled : (y : InitLayer filling) → OfInitLayer filling y
init-filled (expression.Value e) rest = one-is Value (e.1 rest)
init-filled (expression.Items items) rest = one-is Items (items.1 rest)

steps : TreeSteps filling
steps =
    record {
      of_expr = expr-filled;
      of_init = init-filled;
      of_behind = behind-filled;
      of_made = made-filled;
      of_before = before-filled;
      of_items = λ is comma rest. inits-filled is rest;
      of_call = call-filled;
      of_cast = cast-filled;
      of_instance = instance-filled;
      of_lambda = lambda-filled;
      of_new = λ y rest. y.made.1 y.place y.kind rest;
      of_reference = reference-filled;
    }

pub expr-is : (e : Expression) → HasExpr filling e
expr-is = expr-all filling steps

pub init-is : (i : Initialiser) → HasInit filling i
init-is = init-all filling steps
