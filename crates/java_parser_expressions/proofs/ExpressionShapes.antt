-- The marks of an expression have the shape that its view tells.
use Rattle.std.proofs.Common.{◌≡◌, Bool, true, List, [], ◌∷◌, Option, Some, None, map, option_map, codes}
use Rattle.std.proofs.Common.{refl, sym, ap, subst, ◌∙◌, rules}
use Rattle.std.specs.Global.{Vec, Box}
use Rattle.java_tree.specs.declared.words.Ident.{Ident}
use Rattle.java_tree.specs.declared.types.TypeTree.{TypeTree}
use Rattle.java_tree.specs.declared.expressions.Expression.{Expression, roll-Expression}
use Rattle.java_tree.specs.declared.expressions.Initialiser.{Initialiser, roll-Initialiser}
use Rattle.java_tree.specs.declared.expressions.LambdaBody.{roll-LambdaBody}
use Rattle.java_tree.specs.declared.expressions.Made.{roll-Made}
use Rattle.java_tree.specs.declared.expressions.Referred.{roll-Referred}
use Rattle.java_tree.specs.declared.expressions.ArrayTree.{roll-ArrayTree}
use Rattle.java_tree.specs.declared.expressions.CallTree.{roll-CallTree}
use Rattle.java_tree.specs.declared.expressions.CastTree.{roll-CastTree}
use Rattle.java_tree.specs.declared.expressions.InstanceTree.{roll-InstanceTree}
use Rattle.java_tree.specs.declared.expressions.LambdaTree.{roll-LambdaTree}
use Rattle.java_tree.specs.declared.expressions.NewTree.{roll-NewTree}
use Rattle.java_tree.specs.declared.expressions.ReferenceTree.{roll-ReferenceTree}
use Rattle.java_tree.specs.declared.expressions.Expression.TheOpen as expression
use Rattle.java_tree.specs.declared.expressions.Expression.TheFolds.{ind-Expression, ind-Initialiser, the_lemmas}
use Rattle.java_tree.specs.KeptPlaces.{Marks, Puts, some_onto, no_places, each_puts, name_or_new, ty_places}
use Rattle.java_tree.specs.KeptPlaces.{types_places}
use Rattle.java_tree.specs.KeptPlaces.{expr_places, init_places, behind_places, made_places, before_places}
use Rattle.java_tree.specs.KeptPlaces.{array_places}
use Rattle.java_tree.specs.KeptPlaces.{call_places, cast_places, instance_places, lambda_places, new_places}
use Rattle.java_tree.specs.KeptPlaces.{reference_places}
use Rattle.java_tree.specs.Trees.{Ty, Expr, Array, Init, pack_exprs, pack_inits}
use Rattle.java_tree.specs.View.{OfTy, Behind, Before}
use Rattle.java_tree.specs.View.{name_of, ty_of, types_of, expr_of, init_of, behind_of, made_of, before_of, array_of}
use Rattle.java_tree.specs.View.{call_tree_of, cast_tree_of, instance_tree_of, lambda_tree_of, new_tree_of}
use Rattle.java_tree.specs.View.{reference_tree_of}
use Rattle.java_tree.specs.Words.{keyword}
use Rattle.java_parser_expressions.proofs.MarkShapes.{Shape, shape_of, Fits, lacking, each_shape, maybe_shape}
use Rattle.java_parser_expressions.proofs.MarkShapes.{ty_shape, angled_shape, ty_fits, tys_fit, types_fit, token_fits}
use Rattle.java_parser_expressions.proofs.MarkShapes.{tokens_fit, idents_fit}
use Rattle.java_parser_expressions.proofs.ViewShapes.{end_shape, expr_shape, exprs_shape, array_shape, inits_shape}
use Rattle.java_parser_expressions.proofs.ViewShapes.{init_shape, behind_shape, before_shape, lambda_is, reference_is}
use Rattle.java_parser_expressions.proofs.ExpressionLayers.{HasExpression, HasInitialiser, HasLambdaBody, HasMade}
use Rattle.java_parser_expressions.proofs.ExpressionLayers.{HasReferred, HasArrayTree, HasCallTree, HasCastTree}
use Rattle.java_parser_expressions.proofs.ExpressionLayers.{HasInstanceTree, HasLambdaTree, HasNewTree}
use Rattle.java_parser_expressions.proofs.ExpressionLayers.{HasReferenceTree}
use Rattle.java_parser_expressions.proofs.ExpressionLayers.{Exprs, Initials}
use Rattle.java_parser_expressions.proofs.ExpressionLayers.{ExpressionLayer}
use Rattle.java_parser_expressions.proofs.ExpressionLayers.{ExpressionPlain, plain_expr, expr_puts, expr_view}
use Rattle.java_parser_expressions.proofs.ExpressionLayers.{InitialiserLayer, InitialiserPlain, plain_init, init_puts}
use Rattle.java_parser_expressions.proofs.ExpressionLayers.{init_view, LambdaBodyLayer, LambdaBodyPlain, plain_behind}
use Rattle.java_parser_expressions.proofs.ExpressionLayers.{behind_puts, behind_view, MadeLayer, MadePlain, plain_made}
use Rattle.java_parser_expressions.proofs.ExpressionLayers.{made_puts, made_view, ReferredLayer, ReferredPlain}
use Rattle.java_parser_expressions.proofs.ExpressionLayers.{plain_before, before_puts, before_view, ArrayTreeLayer}
use Rattle.java_parser_expressions.proofs.ExpressionLayers.{ArrayTreePlain, plain_array, array_puts, array_view}
use Rattle.java_parser_expressions.proofs.ExpressionLayers.{CallTreeLayer, CallTreePlain, plain_call, call_puts}
use Rattle.java_parser_expressions.proofs.ExpressionLayers.{call_view, CastTreeLayer, CastTreePlain, plain_cast}
use Rattle.java_parser_expressions.proofs.ExpressionLayers.{cast_puts, cast_view, InstanceTreeLayer, InstanceTreePlain}
use Rattle.java_parser_expressions.proofs.ExpressionLayers.{plain_instance, instance_puts, instance_view}
use Rattle.java_parser_expressions.proofs.ExpressionLayers.{LambdaTreeLayer}
use Rattle.java_parser_expressions.proofs.ExpressionLayers.{LambdaTreePlain, plain_lambda, lambda_puts, lambda_view}
use Rattle.java_parser_expressions.proofs.ExpressionLayers.{NewTreeLayer, NewTreePlain, plain_new, new_puts, new_view}
use Rattle.java_parser_expressions.proofs.ExpressionLayers.{ReferenceTreeLayer, ReferenceTreePlain, plain_reference}
use Rattle.java_parser_expressions.proofs.ExpressionLayers.{reference_puts, reference_view}

end_fits : (x : Option Ident) → Fits (name_or_new x) (end_shape (option_map name_of x))
end_fits None rest = token_fits (keyword (codes "new")) rest
end_fits (Some x) rest = refl

abbrev plain_exprs : List Exprs → List Expression
plain_exprs es = map (λ e. e.0) es

abbrev plain_inits : List Initials → List Initialiser
plain_inits is = map (λ i. i.0) is

exprs_fit : (es : List Exprs) → Fits (each_puts (map expr_places (plain_exprs es))) (exprs_shape
    (pack_exprs (map expr_of (plain_exprs es))))
exprs_fit [] rest = refl
exprs_fit (e ∷ es) rest =
    e.1 (each_puts (map expr_places (plain_exprs es)) rest) ∙ ap (expr_shape (expr_of e.0)) (exprs_fit es rest)

inits_fit : (is : List Initials) → Fits (each_puts (map init_places (plain_inits is))) (inits_shape
    (pack_inits (map init_of (plain_inits is))))
inits_fit [] rest = refl
inits_fit (i ∷ is) rest =
    i.1 (each_puts (map init_places (plain_inits is)) rest) ∙ ap (init_shape (init_of i.0)) (inits_fit is rest)

expr_layer : (y : ExpressionLayer) → Fits (expr_puts (plain_expr y)) (expr_shape (expr_view (plain_expr y)))
expr_layer (expression.Assign a op b) rest =
    a.value.1 (expr_places b.value.0 rest) ∙ ap (expr_shape (expr_of a.value.0)) (b.value.1 rest)
expr_layer (expression.Conditional a b c) rest =
    a.value.1 (expr_places b.value.0 (expr_places c.value.0 rest))
    ∙ ap (expr_shape (expr_of a.value.0)) (b.value.1 (expr_places c.value.0 rest)
    ∙ ap (expr_shape (expr_of b.value.0)) (c.value.1 rest))
expr_layer (expression.Binary a op b) rest =
    a.value.1 (expr_places b.value.0 rest) ∙ ap (expr_shape (expr_of a.value.0)) (b.value.1 rest)
expr_layer (expression.InstanceOf a) rest = a.value.1 rest
expr_layer (expression.Prefix op a) rest = a.value.1 rest
expr_layer (expression.Cast a) rest = a.value.1 rest
expr_layer (expression.Postfix a op) rest = a.value.1 rest
expr_layer (expression.Literal k text) rest = refl
expr_layer expression.This rest = refl
expr_layer (expression.Name x) rest = refl
expr_layer (expression.Paren a) rest = a.value.1 rest
expr_layer (expression.Field a x) rest = a.value.1 (Some x.place ∷ rest)
expr_layer (expression.Index a i) rest =
    a.value.1 (expr_places i.value.0 rest) ∙ ap (expr_shape (expr_of a.value.0)) (i.value.1 rest)
expr_layer (expression.Call c) rest = c.value.1 rest
expr_layer (expression.ClassOf xs) rest = idents_fit xs.items rest
expr_layer (expression.New n) rest = n.value.1 rest
expr_layer (expression.Lambda l) rest = l.value.1 rest
expr_layer (expression.Reference r) rest = r.value.1 rest
expr_layer (expression.PlainClass t) rest = ty_fits t rest
expr_layer (expression.ThisOf xs) rest = idents_fit xs.items rest

init_layer : (y : InitialiserLayer) → Fits (init_puts (plain_init y)) (init_shape (init_view (plain_init y)))
init_layer (expression.Value e) rest = e.1 rest
init_layer (expression.Items items) rest = items.1 rest

behind_layer : (y : LambdaBodyLayer)
    → Fits (behind_puts (plain_behind y)) (behind_shape (behind_view (plain_behind y)))
behind_layer (expression.Gives a) rest = a.1 rest
behind_layer (expression.Block block) rest = tokens_fit block rest

made_layer : (y : MadeLayer) (t : Ty) (rest : Marks) → ◌≡◌ {A = Shape} (true
    ∷ ty_shape t (shape_of (made_puts (plain_made y) rest))) (expr_shape (made_view (plain_made y) t) (shape_of rest))
made_layer (expression.Object all) t rest = ap (λ (s : Shape). true ∷ ty_shape t s) (exprs_fit all.items rest)
made_layer (expression.Anonymous all body) t rest =
    ap (λ (s : Shape). true ∷ ty_shape t s) (exprs_fit all.items (no_places body rest)
    ∙ ap (exprs_shape (pack_exprs (map expr_of (plain_exprs all.items)))) (tokens_fit body rest))
made_layer (expression.Array lengths n) t rest =
    ap (λ (s : Shape). true ∷ ty_shape t s) (exprs_fit lengths.items rest)
made_layer (expression.Filled n items) t rest = ap (λ (s : Shape). true ∷ ty_shape t s) (items.1 rest)

before_layer : (y : ReferredLayer)
    → Fits (before_puts (plain_before y)) (before_shape (before_view (plain_before y)))
before_layer (expression.Of a) rest = a.1 rest
before_layer (expression.Type t) rest = ty_fits t rest
before_layer expression.Super rest = refl

array_layer : (y : ArrayTreeLayer) → Fits (array_puts (plain_array y)) (array_shape (array_view (plain_array y)))
array_layer y rest = inits_fit y.items.items rest

abbrev of_call : Option (Box Exprs) → List TypeTree → Bool → Ident → Vec Exprs → CallTreeLayer
of_call o ts glued x all = record { receiver = o; types = ts; glued = glued; name = x; arguments = all }

call_case : (o : Option (Box Exprs)) (ts : List TypeTree) (glued : Bool) (x : Ident) (all : Vec Exprs)
    → Fits (call_puts (plain_call (of_call o ts glued x all))) (expr_shape
    (call_view (plain_call (of_call o ts glued x all))))
call_case None ts glued x all rest = ap (λ (s : Shape). true ∷ s) (exprs_fit all.items rest)
call_case (Some a) ts glued x all rest =
    let inside = Some x.place ∷ each_puts (map expr_places (plain_exprs all.items)) rest in
    a.value.1 (types_places ts inside) ∙ ap (expr_shape (expr_of a.value.0)) (types_fit ts glued inside
    ∙ ap (λ (s : Shape). maybe_shape angled_shape (types_of ts glued) (true ∷ s)) (exprs_fit all.items rest))

call_layer : (y : CallTreeLayer) → Fits (call_puts (plain_call y)) (expr_shape (call_view (plain_call y)))
call_layer y = call_case y.receiver y.types y.glued y.name y.arguments

cast_layer : (y : CastTreeLayer) → Fits (cast_puts (plain_cast y)) (expr_shape (cast_view (plain_cast y)))
cast_layer y rest =
    tys_fit y.types (expr_places y.value.0 rest) ∙ ap (each_shape ty_shape (map ty_of y.types)) (y.value.1 rest)

instance_layer : (y : InstanceTreeLayer)
    → Fits (instance_puts (plain_instance y)) (expr_shape (instance_view (plain_instance y)))
instance_layer y rest =
    y.value.1 (some_onto (ty_places y.kind) rest) ∙ ap (expr_shape (expr_of y.value.0)) (ty_fits y.kind rest)

lambda_layer : (y : LambdaTreeLayer) → Fits (lambda_puts (plain_lambda y)) (expr_shape (lambda_view (plain_lambda y)))
lambda_layer y rest =
    tokens_fit y.parameters (behind_places y.body.0 rest)
    ∙ (ap (each_shape lacking y.parameters) (y.body.1 rest)
    ∙ lambda_is y.parameters (behind_of y.body.0) (shape_of rest))

new_layer : (y : NewTreeLayer) → Fits (new_puts (plain_new y)) (expr_shape (new_view (plain_new y)))
new_layer y rest =
    ap (λ (s : Shape). true ∷ s) (ty_fits y.kind (made_places y.made.0 rest)) ∙ y.made.1 (ty_of y.kind) rest

reference_layer : (y : ReferenceTreeLayer)
    → Fits (reference_puts (plain_reference y)) (expr_shape (reference_view (plain_reference y)))
reference_layer y rest =
    let types = types_of y.types y.glued in
    let last = name_or_new y.name rest in
    y.of.1 (types_places y.types last)
    ∙ (ap (before_shape (before_of y.of.0)) (types_fit y.types y.glued last
    ∙ ap (maybe_shape angled_shape types) (end_fits y.name rest))
    ∙ reference_is (before_of y.of.0) types (option_map name_of y.name) (shape_of rest))

-- ---- all

expr_has : (x : ExpressionPlain) (y : ExpressionLayer) → plain_expr y ≡ x → HasExpression (roll-Expression x)
expr_has x y is =
    let places : expr_places (roll-Expression (plain_expr y)) ≡ expr_puts (plain_expr y) = search (rules, the_lemmas) in
    let seen : expr_of (roll-Expression (plain_expr y)) ≡ expr_view (plain_expr y) = search (rules, the_lemmas) in
    subst (λ z. HasExpression (roll-Expression z)) is (λ rest. ap (λ (f : Puts). shape_of (f rest)) places ∙
    (expr_layer y rest
    ∙ ap (λ (v : Expr). expr_shape v (shape_of rest)) (sym seen)))

init_has : (x : InitialiserPlain) (y : InitialiserLayer) → plain_init y ≡ x → HasInitialiser (roll-Initialiser x)
init_has x y is =
    let places : init_places (roll-Initialiser (plain_init y)) ≡ init_puts (plain_init y) = search (
      rules,
      the_lemmas,
    ) in
    let seen : init_of (roll-Initialiser (plain_init y)) ≡ init_view (plain_init y) = search (rules, the_lemmas) in
    subst (λ z. HasInitialiser (roll-Initialiser z)) is (λ rest. ap (λ (f : Puts). shape_of (f rest)) places ∙
    (init_layer y rest
    ∙ ap (λ (v : Init). init_shape v (shape_of rest)) (sym seen)))

behind_has : (x : LambdaBodyPlain) (y : LambdaBodyLayer) → plain_behind y ≡ x → HasLambdaBody (roll-LambdaBody x)
behind_has x y is =
    let places : behind_places (roll-LambdaBody (plain_behind y)) ≡ behind_puts (plain_behind y) = search (
      rules,
      the_lemmas,
    ) in
    let seen : behind_of (roll-LambdaBody (plain_behind y)) ≡ behind_view (plain_behind y) = search (
      rules,
      the_lemmas,
    ) in
    subst (λ z. HasLambdaBody (roll-LambdaBody z)) is (λ rest. ap (λ (f : Puts). shape_of (f rest)) places ∙
    (behind_layer y rest
    ∙ ap (λ (v : Behind). behind_shape v (shape_of rest)) (sym seen)))

made_has : (x : MadePlain) (y : MadeLayer) → plain_made y ≡ x → HasMade (roll-Made x)
made_has x y is =
    let places : made_places (roll-Made (plain_made y)) ≡ made_puts (plain_made y) = search (rules, the_lemmas) in
    let seen : made_of (roll-Made (plain_made y)) ≡ made_view (plain_made y) = search (rules, the_lemmas) in
    subst (λ z. HasMade (roll-Made z)) is (λ t rest. ap (λ (f : Puts). true ∷ ty_shape t (shape_of (f rest))) places
    ∙ (made_layer y t rest ∙ ap (λ (v : OfTy). expr_shape (v t) (shape_of rest)) (sym seen)))

before_has : (x : ReferredPlain) (y : ReferredLayer) → plain_before y ≡ x → HasReferred (roll-Referred x)
before_has x y is =
    let places : before_places (roll-Referred (plain_before y)) ≡ before_puts (plain_before y) = search (
      rules,
      the_lemmas,
    ) in
    let seen : before_of (roll-Referred (plain_before y)) ≡ before_view (plain_before y) = search (rules, the_lemmas) in
    subst (λ z. HasReferred (roll-Referred z)) is (λ rest. ap (λ (f : Puts). shape_of (f rest)) places ∙
    (before_layer y rest
    ∙ ap (λ (v : Before). before_shape v (shape_of rest)) (sym seen)))

array_has : (x : ArrayTreePlain) (y : ArrayTreeLayer) → plain_array y ≡ x → HasArrayTree (roll-ArrayTree x)
array_has x y is =
    let places : array_places (roll-ArrayTree (plain_array y)) ≡ array_puts (plain_array y) = search (
      rules,
      the_lemmas,
    ) in
    let seen : array_of (roll-ArrayTree (plain_array y)) ≡ array_view (plain_array y) = search (rules, the_lemmas) in
    subst (λ z. HasArrayTree (roll-ArrayTree z)) is (λ rest. ap (λ (f : Puts). shape_of (f rest)) places ∙
    (array_layer y rest
    ∙ ap (λ (v : Array). array_shape v (shape_of rest)) (sym seen)))

call_has : (x : CallTreePlain) (y : CallTreeLayer) → plain_call y ≡ x → HasCallTree (roll-CallTree x)
call_has x y is =
    let places : call_places (roll-CallTree (plain_call y)) ≡ call_puts (plain_call y) = search (rules, the_lemmas) in
    let seen : call_tree_of (roll-CallTree (plain_call y)) ≡ call_view (plain_call y) = search (rules, the_lemmas) in
    subst (λ z. HasCallTree (roll-CallTree z)) is (λ rest. ap (λ (f : Puts). shape_of (f rest)) places ∙
    (call_layer y rest
    ∙ ap (λ (v : Expr). expr_shape v (shape_of rest)) (sym seen)))

cast_has : (x : CastTreePlain) (y : CastTreeLayer) → plain_cast y ≡ x → HasCastTree (roll-CastTree x)
cast_has x y is =
    let places : cast_places (roll-CastTree (plain_cast y)) ≡ cast_puts (plain_cast y) = search (rules, the_lemmas) in
    let seen : cast_tree_of (roll-CastTree (plain_cast y)) ≡ cast_view (plain_cast y) = search (rules, the_lemmas) in
    subst (λ z. HasCastTree (roll-CastTree z)) is (λ rest. ap (λ (f : Puts). shape_of (f rest)) places ∙
    (cast_layer y rest
    ∙ ap (λ (v : Expr). expr_shape v (shape_of rest)) (sym seen)))

instance_has : (x : InstanceTreePlain) (y : InstanceTreeLayer) → plain_instance y ≡ x → HasInstanceTree
    (roll-InstanceTree x)
instance_has x y is =
    let places : instance_places (roll-InstanceTree (plain_instance y)) ≡ instance_puts (plain_instance y) =
    search (rules, the_lemmas) in
    let seen : instance_tree_of (roll-InstanceTree (plain_instance y)) ≡ instance_view (plain_instance y) =
    search (rules, the_lemmas) in
    subst (λ z. HasInstanceTree (roll-InstanceTree z)) is (λ rest. ap (λ (f : Puts). shape_of (f rest)) places ∙
    (instance_layer y rest
    ∙ ap (λ (v : Expr). expr_shape v (shape_of rest)) (sym seen)))

lambda_has : (x : LambdaTreePlain) (y : LambdaTreeLayer) → plain_lambda y ≡ x → HasLambdaTree (roll-LambdaTree x)
lambda_has x y is =
    let places : lambda_places (roll-LambdaTree (plain_lambda y)) ≡ lambda_puts (plain_lambda y) = search (
      rules,
      the_lemmas,
    ) in
    let seen : lambda_tree_of (roll-LambdaTree (plain_lambda y)) ≡ lambda_view (plain_lambda y) = search (
      rules,
      the_lemmas,
    ) in
    subst (λ z. HasLambdaTree (roll-LambdaTree z)) is (λ rest. ap (λ (f : Puts). shape_of (f rest)) places ∙
    (lambda_layer y rest
    ∙ ap (λ (v : Expr). expr_shape v (shape_of rest)) (sym seen)))

new_has : (x : NewTreePlain) (y : NewTreeLayer) → plain_new y ≡ x → HasNewTree (roll-NewTree x)
new_has x y is =
    let places : new_places (roll-NewTree (plain_new y)) ≡ new_puts (plain_new y) = search (rules, the_lemmas) in
    let seen : new_tree_of (roll-NewTree (plain_new y)) ≡ new_view (plain_new y) = search (rules, the_lemmas) in
    subst (λ z. HasNewTree (roll-NewTree z)) is (λ rest. ap (λ (f : Puts). shape_of (f rest)) places ∙ (new_layer y rest
    ∙ ap (λ (v : Expr). expr_shape v (shape_of rest)) (sym seen)))

reference_has : (x : ReferenceTreePlain) (y : ReferenceTreeLayer) → plain_reference y ≡ x → HasReferenceTree
    (roll-ReferenceTree x)
reference_has x y is =
    let places : reference_places (roll-ReferenceTree (plain_reference y)) ≡ reference_puts (plain_reference y) =
    search (rules, the_lemmas) in
    let seen : reference_tree_of (roll-ReferenceTree (plain_reference y)) ≡ reference_view (plain_reference y) =
    search (rules, the_lemmas) in
    subst (λ z. HasReferenceTree (roll-ReferenceTree z)) is (λ rest. ap (λ (f : Puts). shape_of (f rest)) places
    ∙ (reference_layer y rest
    ∙ ap (λ (v : Expr). expr_shape v (shape_of rest)) (sym seen)))

pub expr_fits : (e : Expression) → HasExpression e
expr_fits = ind-Expression HasExpression HasInitialiser HasLambdaBody HasMade HasReferred HasArrayTree
    HasCallTree HasCastTree HasInstanceTree HasLambdaTree HasNewTree HasReferenceTree expr_has init_has
    behind_has made_has before_has array_has call_has cast_has instance_has lambda_has new_has reference_has

pub init_fits : (i : Initialiser) → HasInitialiser i
init_fits = ind-Initialiser HasExpression HasInitialiser HasLambdaBody HasMade HasReferred HasArrayTree
    HasCallTree HasCastTree HasInstanceTree HasLambdaTree HasNewTree HasReferenceTree expr_has init_has
    behind_has made_has before_has array_has call_has cast_has instance_has lambda_has new_has reference_has

pub all_fit : (es : List Expression) → Fits (each_puts (map expr_places es)) (exprs_shape (pack_exprs (map expr_of es)))
all_fit [] rest = refl
all_fit (e ∷ es) rest =
    expr_fits e (each_puts (map expr_places es) rest) ∙ ap (expr_shape (expr_of e)) (all_fit es rest)
