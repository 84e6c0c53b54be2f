-- What holds of each layer of an expression holds of all of it: what is to be shown, a layer each, and one induction.
use Rattle.std.proofs.Common.{◌≡◌, Bool, List, map, sym, subst, rules}
use Rattle.java_tree.specs.declared.expressions.Expression.{Expression, roll-Expression, map-Expression}
use Rattle.java_tree.specs.declared.expressions.Initialiser.{Initialiser, roll-Initialiser, map-Initialiser}
use Rattle.java_tree.specs.declared.expressions.LambdaBody.{LambdaBody, roll-LambdaBody, map-LambdaBody}
use Rattle.java_tree.specs.declared.expressions.Made.{Made, roll-Made, map-Made}
use Rattle.java_tree.specs.declared.expressions.Referred.{Referred, roll-Referred, map-Referred}
use Rattle.java_tree.specs.declared.expressions.ArrayTree.{ArrayTree, roll-ArrayTree}
use Rattle.java_tree.specs.declared.expressions.CallTree.{CallTree, roll-CallTree, map-CallTree}
use Rattle.java_tree.specs.declared.expressions.CastTree.{CastTree, roll-CastTree, map-CastTree}
use Rattle.java_tree.specs.declared.expressions.InstanceTree.{InstanceTree, roll-InstanceTree, map-InstanceTree}
use Rattle.java_tree.specs.declared.expressions.LambdaTree.{LambdaTree, roll-LambdaTree, map-LambdaTree}
use Rattle.java_tree.specs.declared.expressions.NewTree.{NewTree, roll-NewTree, map-NewTree}
use Rattle.java_tree.specs.declared.expressions.ReferenceTree.{ReferenceTree, roll-ReferenceTree, map-ReferenceTree}
use Rattle.java_tree.specs.declared.expressions.Expression.TheFolds.{ind-Expression, ind-Initialiser, the_lemmas}
use Rattle.java_tree.specs.KeptPlaces.{Puts, each_puts, expr_places, init_places, behind_places, made_places}
use Rattle.java_tree.specs.KeptPlaces.{before_places, array_places, call_places, cast_places, instance_places}
use Rattle.java_tree.specs.KeptPlaces.{lambda_places, new_places, reference_places}
use Rattle.java_tree.specs.KeptPlaces as kept
use Rattle.java_tree.specs.Trees as view
use Rattle.java_tree.specs.View as viewed
use Rattle.core_lowering_rules.specs.Trees.{Expr, Referee, Init, Inits, pack_inits}
use Rattle.core_lowering_rules.specs.TreesOf.{OfNew, expr_of, init_of, behind_of, made_of, referred_of, items_of}
use Rattle.core_lowering_rules.specs.TreesOf.{call_tree_of, cast_tree_of, instance_tree_of, lambda_tree_of}
use Rattle.core_lowering_rules.specs.TreesOf.{new_tree_of, reference_tree_of}
use Rattle.core_lowering_rules.specs.TreesOf as lowered
use Rattle.core_lowering_rules.proofs.TreeLayers.{TreeFact, Initialisers, Plain, PlainInit, PlainBehind, PlainMade}
use Rattle.core_lowering_rules.proofs.TreeLayers.{PlainBefore, PlainArray, PlainCall, PlainCast, PlainInstance}
use Rattle.core_lowering_rules.proofs.TreeLayers.{PlainLambda, PlainNew, PlainReference}
use Rattle.core_lowering_rules.proofs.TreeLayers.{Layer, InitLayer, BehindLayer, MadeLayer, BeforeLayer, ArrayLayer}
use Rattle.core_lowering_rules.proofs.TreeLayers.{CallLayer, CastLayer, InstanceLayer, LambdaLayer, NewLayer}
use Rattle.core_lowering_rules.proofs.TreeLayers.{ReferenceLayer}
use Rattle.core_lowering_rules.proofs.TreeLayers.{plain, plain_init, plain_behind, plain_made, plain_before}
use Rattle.core_lowering_rules.proofs.TreeLayers.{plain_array, plain_call, plain_cast, plain_instance, plain_lambda}
use Rattle.core_lowering_rules.proofs.TreeLayers.{plain_new, plain_reference}
use Rattle.core_lowering_rules.proofs.TreeLayers.{HasExpr, HasInit, HasBehind, HasMade, HasBefore, HasItems}
use Rattle.core_lowering_rules.proofs.TreeLayers.{HasCall, HasCast, HasInstance, HasLambda, HasNew, HasReference}

moved : {A B C : Type 0} (P : A → B → C → Type 0) {a p : A} {b q : B} {c r : C} → p ≡ a → q ≡ b → r ≡ c → P a b c →
    P p q r
moved P {a} {p} {b} {q} {c} {r} e f g h =
    subst (λ x. P x q r) (sym e) (subst (λ y. P a y r) (sym f) (subst (λ z. P a b z) (sym g) h))

module _ (f : TreeFact) where
  abbrev pub OfLayer : Layer f → Type 0
  OfLayer y =
      f.OfExpr
      (viewed.expr_step
      (map-Expression Expression Initialiser LambdaBody Made Referred ArrayTree CallTree CastTree InstanceTree
      LambdaTree NewTree ReferenceTree view.Expr view.Init viewed.Behind viewed.OfTy viewed.Before view.Array
      view.Expr view.Expr view.Expr view.Expr view.Expr view.Expr viewed.expr_of viewed.init_of viewed.behind_of
      viewed.made_of viewed.before_of viewed.array_of viewed.call_tree_of viewed.cast_tree_of viewed.instance_tree_of
      viewed.lambda_tree_of viewed.new_tree_of viewed.reference_tree_of (plain f y)))
      (kept.expr_step
      (map-Expression Expression Initialiser LambdaBody Made Referred ArrayTree CallTree CastTree InstanceTree
      LambdaTree NewTree ReferenceTree Puts Puts Puts Puts Puts Puts Puts Puts Puts Puts Puts Puts expr_places
      init_places behind_places made_places before_places array_places call_places cast_places instance_places
      lambda_places new_places reference_places (plain f y)))
      (lowered.expr_step
      (map-Expression Expression Initialiser LambdaBody Made Referred ArrayTree CallTree CastTree InstanceTree
      LambdaTree NewTree ReferenceTree Expr Init Expr OfNew Referee Inits Expr Expr Expr Expr Expr Expr expr_of
      init_of behind_of made_of referred_of items_of call_tree_of cast_tree_of instance_tree_of lambda_tree_of
      new_tree_of reference_tree_of (plain f y)))

  abbrev pub OfInitLayer : InitLayer f → Type 0
  OfInitLayer y =
      f.OfInit
      (viewed.init_step
      (map-Initialiser Expression Initialiser LambdaBody Made Referred ArrayTree CallTree CastTree InstanceTree
      LambdaTree NewTree ReferenceTree view.Expr view.Init viewed.Behind viewed.OfTy viewed.Before view.Array
      view.Expr view.Expr view.Expr view.Expr view.Expr view.Expr viewed.expr_of viewed.init_of viewed.behind_of
      viewed.made_of viewed.before_of viewed.array_of viewed.call_tree_of viewed.cast_tree_of viewed.instance_tree_of
      viewed.lambda_tree_of viewed.new_tree_of viewed.reference_tree_of (plain_init f y)))
      (kept.init_step
      (map-Initialiser Expression Initialiser LambdaBody Made Referred ArrayTree CallTree CastTree InstanceTree
      LambdaTree NewTree ReferenceTree Puts Puts Puts Puts Puts Puts Puts Puts Puts Puts Puts Puts expr_places
      init_places behind_places made_places before_places array_places call_places cast_places instance_places
      lambda_places new_places reference_places (plain_init f y)))
      (lowered.init_step
      (map-Initialiser Expression Initialiser LambdaBody Made Referred ArrayTree CallTree CastTree InstanceTree
      LambdaTree NewTree ReferenceTree Expr Init Expr OfNew Referee Inits Expr Expr Expr Expr Expr Expr expr_of
      init_of behind_of made_of referred_of items_of call_tree_of cast_tree_of instance_tree_of lambda_tree_of
      new_tree_of reference_tree_of (plain_init f y)))

  abbrev pub OfBehindLayer : BehindLayer f → Type 0
  OfBehindLayer y =
      f.OfBehind
      (viewed.behind_step
      (map-LambdaBody Expression Initialiser LambdaBody Made Referred ArrayTree CallTree CastTree InstanceTree
      LambdaTree NewTree ReferenceTree view.Expr view.Init viewed.Behind viewed.OfTy viewed.Before view.Array
      view.Expr view.Expr view.Expr view.Expr view.Expr view.Expr viewed.expr_of viewed.init_of viewed.behind_of
      viewed.made_of viewed.before_of viewed.array_of viewed.call_tree_of viewed.cast_tree_of viewed.instance_tree_of
      viewed.lambda_tree_of viewed.new_tree_of viewed.reference_tree_of (plain_behind f y)))
      (kept.behind_step
      (map-LambdaBody Expression Initialiser LambdaBody Made Referred ArrayTree CallTree CastTree InstanceTree
      LambdaTree NewTree ReferenceTree Puts Puts Puts Puts Puts Puts Puts Puts Puts Puts Puts Puts expr_places
      init_places behind_places made_places before_places array_places call_places cast_places instance_places
      lambda_places new_places reference_places (plain_behind f y)))
      (lowered.behind_step
      (map-LambdaBody Expression Initialiser LambdaBody Made Referred ArrayTree CallTree CastTree InstanceTree
      LambdaTree NewTree ReferenceTree Expr Init Expr OfNew Referee Inits Expr Expr Expr Expr Expr Expr expr_of
      init_of behind_of made_of referred_of items_of call_tree_of cast_tree_of instance_tree_of lambda_tree_of
      new_tree_of reference_tree_of (plain_behind f y)))

  abbrev pub OfMadeLayer : MadeLayer f → Type 0
  OfMadeLayer y =
      f.OfMade
      (viewed.made_step
      (map-Made Expression Initialiser LambdaBody Made Referred ArrayTree CallTree CastTree InstanceTree LambdaTree
      NewTree ReferenceTree view.Expr view.Init viewed.Behind viewed.OfTy viewed.Before view.Array view.Expr view.Expr
      view.Expr view.Expr view.Expr view.Expr viewed.expr_of viewed.init_of viewed.behind_of viewed.made_of
      viewed.before_of viewed.array_of viewed.call_tree_of viewed.cast_tree_of viewed.instance_tree_of
      viewed.lambda_tree_of viewed.new_tree_of viewed.reference_tree_of (plain_made f y)))
      (kept.made_step
      (map-Made Expression Initialiser LambdaBody Made Referred ArrayTree CallTree CastTree InstanceTree LambdaTree
      NewTree ReferenceTree Puts Puts Puts Puts Puts Puts Puts Puts Puts Puts Puts Puts expr_places init_places
      behind_places made_places before_places array_places call_places cast_places instance_places lambda_places
      new_places reference_places (plain_made f y)))
      (lowered.made_step
      (map-Made Expression Initialiser LambdaBody Made Referred ArrayTree CallTree CastTree InstanceTree LambdaTree
      NewTree ReferenceTree Expr Init Expr OfNew Referee Inits Expr Expr Expr Expr Expr Expr expr_of init_of behind_of
      made_of referred_of items_of call_tree_of cast_tree_of instance_tree_of lambda_tree_of new_tree_of
      reference_tree_of (plain_made f y)))

  abbrev pub OfBeforeLayer : BeforeLayer f → Type 0
  OfBeforeLayer y =
      f.OfBefore
      (viewed.before_step
      (map-Referred Expression Initialiser LambdaBody Made Referred ArrayTree CallTree CastTree InstanceTree
      LambdaTree NewTree ReferenceTree view.Expr view.Init viewed.Behind viewed.OfTy viewed.Before view.Array
      view.Expr view.Expr view.Expr view.Expr view.Expr view.Expr viewed.expr_of viewed.init_of viewed.behind_of
      viewed.made_of viewed.before_of viewed.array_of viewed.call_tree_of viewed.cast_tree_of viewed.instance_tree_of
      viewed.lambda_tree_of viewed.new_tree_of viewed.reference_tree_of (plain_before f y)))
      (kept.before_step
      (map-Referred Expression Initialiser LambdaBody Made Referred ArrayTree CallTree CastTree InstanceTree
      LambdaTree NewTree ReferenceTree Puts Puts Puts Puts Puts Puts Puts Puts Puts Puts Puts Puts expr_places
      init_places behind_places made_places before_places array_places call_places cast_places instance_places
      lambda_places new_places reference_places (plain_before f y)))
      (lowered.before_step
      (map-Referred Expression Initialiser LambdaBody Made Referred ArrayTree CallTree CastTree InstanceTree
      LambdaTree NewTree ReferenceTree Expr Init Expr OfNew Referee Inits Expr Expr Expr Expr Expr Expr expr_of
      init_of behind_of made_of referred_of items_of call_tree_of cast_tree_of instance_tree_of lambda_tree_of
      new_tree_of reference_tree_of (plain_before f y)))

  abbrev pub OfCallLayer : CallLayer f → Type 0
  OfCallLayer y =
      f.OfExpr
      (viewed.call_step
      (map-CallTree Expression Initialiser LambdaBody Made Referred ArrayTree CallTree CastTree InstanceTree
      LambdaTree NewTree ReferenceTree view.Expr view.Init viewed.Behind viewed.OfTy viewed.Before view.Array
      view.Expr view.Expr view.Expr view.Expr view.Expr view.Expr viewed.expr_of viewed.init_of viewed.behind_of
      viewed.made_of viewed.before_of viewed.array_of viewed.call_tree_of viewed.cast_tree_of viewed.instance_tree_of
      viewed.lambda_tree_of viewed.new_tree_of viewed.reference_tree_of (plain_call f y)))
      (kept.call_step
      (map-CallTree Expression Initialiser LambdaBody Made Referred ArrayTree CallTree CastTree InstanceTree
      LambdaTree NewTree ReferenceTree Puts Puts Puts Puts Puts Puts Puts Puts Puts Puts Puts Puts expr_places
      init_places behind_places made_places before_places array_places call_places cast_places instance_places
      lambda_places new_places reference_places (plain_call f y)))
      (lowered.call_step
      (map-CallTree Expression Initialiser LambdaBody Made Referred ArrayTree CallTree CastTree InstanceTree
      LambdaTree NewTree ReferenceTree Expr Init Expr OfNew Referee Inits Expr Expr Expr Expr Expr Expr expr_of
      init_of behind_of made_of referred_of items_of call_tree_of cast_tree_of instance_tree_of lambda_tree_of
      new_tree_of reference_tree_of (plain_call f y)))

  abbrev pub OfCastLayer : CastLayer f → Type 0
  OfCastLayer y =
      f.OfExpr
      (viewed.cast_step
      (map-CastTree Expression Initialiser LambdaBody Made Referred ArrayTree CallTree CastTree InstanceTree
      LambdaTree NewTree ReferenceTree view.Expr view.Init viewed.Behind viewed.OfTy viewed.Before view.Array
      view.Expr view.Expr view.Expr view.Expr view.Expr view.Expr viewed.expr_of viewed.init_of viewed.behind_of
      viewed.made_of viewed.before_of viewed.array_of viewed.call_tree_of viewed.cast_tree_of viewed.instance_tree_of
      viewed.lambda_tree_of viewed.new_tree_of viewed.reference_tree_of (plain_cast f y)))
      (kept.cast_step
      (map-CastTree Expression Initialiser LambdaBody Made Referred ArrayTree CallTree CastTree InstanceTree
      LambdaTree NewTree ReferenceTree Puts Puts Puts Puts Puts Puts Puts Puts Puts Puts Puts Puts expr_places
      init_places behind_places made_places before_places array_places call_places cast_places instance_places
      lambda_places new_places reference_places (plain_cast f y)))
      (lowered.cast_step
      (map-CastTree Expression Initialiser LambdaBody Made Referred ArrayTree CallTree CastTree InstanceTree
      LambdaTree NewTree ReferenceTree Expr Init Expr OfNew Referee Inits Expr Expr Expr Expr Expr Expr expr_of
      init_of behind_of made_of referred_of items_of call_tree_of cast_tree_of instance_tree_of lambda_tree_of
      new_tree_of reference_tree_of (plain_cast f y)))

  abbrev pub OfInstanceLayer : InstanceLayer f → Type 0
  OfInstanceLayer y =
      f.OfExpr
      (viewed.instance_step
      (map-InstanceTree Expression Initialiser LambdaBody Made Referred ArrayTree CallTree CastTree InstanceTree
      LambdaTree NewTree ReferenceTree view.Expr view.Init viewed.Behind viewed.OfTy viewed.Before view.Array
      view.Expr view.Expr view.Expr view.Expr view.Expr view.Expr viewed.expr_of viewed.init_of viewed.behind_of
      viewed.made_of viewed.before_of viewed.array_of viewed.call_tree_of viewed.cast_tree_of viewed.instance_tree_of
      viewed.lambda_tree_of viewed.new_tree_of viewed.reference_tree_of (plain_instance f y)))
      (kept.instance_step
      (map-InstanceTree Expression Initialiser LambdaBody Made Referred ArrayTree CallTree CastTree InstanceTree
      LambdaTree NewTree ReferenceTree Puts Puts Puts Puts Puts Puts Puts Puts Puts Puts Puts Puts expr_places
      init_places behind_places made_places before_places array_places call_places cast_places instance_places
      lambda_places new_places reference_places (plain_instance f y)))
      (lowered.instance_step
      (map-InstanceTree Expression Initialiser LambdaBody Made Referred ArrayTree CallTree CastTree InstanceTree
      LambdaTree NewTree ReferenceTree Expr Init Expr OfNew Referee Inits Expr Expr Expr Expr Expr Expr expr_of
      init_of behind_of made_of referred_of items_of call_tree_of cast_tree_of instance_tree_of lambda_tree_of
      new_tree_of reference_tree_of (plain_instance f y)))

  abbrev pub OfLambdaLayer : LambdaLayer f → Type 0
  OfLambdaLayer y =
      f.OfExpr
      (viewed.lambda_step
      (map-LambdaTree Expression Initialiser LambdaBody Made Referred ArrayTree CallTree CastTree InstanceTree
      LambdaTree NewTree ReferenceTree view.Expr view.Init viewed.Behind viewed.OfTy viewed.Before view.Array
      view.Expr view.Expr view.Expr view.Expr view.Expr view.Expr viewed.expr_of viewed.init_of viewed.behind_of
      viewed.made_of viewed.before_of viewed.array_of viewed.call_tree_of viewed.cast_tree_of viewed.instance_tree_of
      viewed.lambda_tree_of viewed.new_tree_of viewed.reference_tree_of (plain_lambda f y)))
      (kept.lambda_step
      (map-LambdaTree Expression Initialiser LambdaBody Made Referred ArrayTree CallTree CastTree InstanceTree
      LambdaTree NewTree ReferenceTree Puts Puts Puts Puts Puts Puts Puts Puts Puts Puts Puts Puts expr_places
      init_places behind_places made_places before_places array_places call_places cast_places instance_places
      lambda_places new_places reference_places (plain_lambda f y)))
      (lowered.lambda_step
      (map-LambdaTree Expression Initialiser LambdaBody Made Referred ArrayTree CallTree CastTree InstanceTree
      LambdaTree NewTree ReferenceTree Expr Init Expr OfNew Referee Inits Expr Expr Expr Expr Expr Expr expr_of
      init_of behind_of made_of referred_of items_of call_tree_of cast_tree_of instance_tree_of lambda_tree_of
      new_tree_of reference_tree_of (plain_lambda f y)))

  abbrev pub OfNewLayer : NewLayer f → Type 0
  OfNewLayer y =
      f.OfExpr
      (viewed.new_step
      (map-NewTree Expression Initialiser LambdaBody Made Referred ArrayTree CallTree CastTree InstanceTree LambdaTree
      NewTree ReferenceTree view.Expr view.Init viewed.Behind viewed.OfTy viewed.Before view.Array view.Expr view.Expr
      view.Expr view.Expr view.Expr view.Expr viewed.expr_of viewed.init_of viewed.behind_of viewed.made_of
      viewed.before_of viewed.array_of viewed.call_tree_of viewed.cast_tree_of viewed.instance_tree_of
      viewed.lambda_tree_of viewed.new_tree_of viewed.reference_tree_of (plain_new f y)))
      (kept.new_step
      (map-NewTree Expression Initialiser LambdaBody Made Referred ArrayTree CallTree CastTree InstanceTree LambdaTree
      NewTree ReferenceTree Puts Puts Puts Puts Puts Puts Puts Puts Puts Puts Puts Puts expr_places init_places
      behind_places made_places before_places array_places call_places cast_places instance_places lambda_places
      new_places reference_places (plain_new f y)))
      (lowered.new_step
      (map-NewTree Expression Initialiser LambdaBody Made Referred ArrayTree CallTree CastTree InstanceTree LambdaTree
      NewTree ReferenceTree Expr Init Expr OfNew Referee Inits Expr Expr Expr Expr Expr Expr expr_of init_of behind_of
      made_of referred_of items_of call_tree_of cast_tree_of instance_tree_of lambda_tree_of new_tree_of
      reference_tree_of (plain_new f y)))

  abbrev pub OfReferenceLayer : ReferenceLayer f → Type 0
  OfReferenceLayer y =
      f.OfExpr
      (viewed.reference_step
      (map-ReferenceTree Expression Initialiser LambdaBody Made Referred ArrayTree CallTree CastTree InstanceTree
      LambdaTree NewTree ReferenceTree view.Expr view.Init viewed.Behind viewed.OfTy viewed.Before view.Array
      view.Expr view.Expr view.Expr view.Expr view.Expr view.Expr viewed.expr_of viewed.init_of viewed.behind_of
      viewed.made_of viewed.before_of viewed.array_of viewed.call_tree_of viewed.cast_tree_of viewed.instance_tree_of
      viewed.lambda_tree_of viewed.new_tree_of viewed.reference_tree_of (plain_reference f y)))
      (kept.reference_step
      (map-ReferenceTree Expression Initialiser LambdaBody Made Referred ArrayTree CallTree CastTree InstanceTree
      LambdaTree NewTree ReferenceTree Puts Puts Puts Puts Puts Puts Puts Puts Puts Puts Puts Puts expr_places
      init_places behind_places made_places before_places array_places call_places cast_places instance_places
      lambda_places new_places reference_places (plain_reference f y)))
      (lowered.reference_step
      (map-ReferenceTree Expression Initialiser LambdaBody Made Referred ArrayTree CallTree CastTree InstanceTree
      LambdaTree NewTree ReferenceTree Expr Init Expr OfNew Referee Inits Expr Expr Expr Expr Expr Expr expr_of
      init_of behind_of made_of referred_of items_of call_tree_of cast_tree_of instance_tree_of lambda_tree_of
      new_tree_of reference_tree_of (plain_reference f y)))

  abbrev pub plain_inits : List (Initialisers f) → List Initialiser
  plain_inits is = map (λ i. i.0) is

  -- what is to be shown, a layer each
  pub record TreeSteps : Type 0 where
    pub of_expr : (y : Layer f) → OfLayer y
    pub of_init : (y : InitLayer f) → OfInitLayer y
    pub of_behind : (y : BehindLayer f) → OfBehindLayer y
    pub of_made : (y : MadeLayer f) → OfMadeLayer y
    pub of_before : (y : BeforeLayer f) → OfBeforeLayer y
    pub of_items : (is : List (Initialisers f)) (last_comma : Bool) →
        f.OfArray (view.Braces (view.pack_inits (map viewed.init_of (plain_inits is))) last_comma)
        (each_puts (map init_places (plain_inits is))) (pack_inits (map init_of (plain_inits is)))
    pub of_call : (y : CallLayer f) → OfCallLayer y
    pub of_cast : (y : CastLayer f) → OfCastLayer y
    pub of_instance : (y : InstanceLayer f) → OfInstanceLayer y
    pub of_lambda : (y : LambdaLayer f) → OfLambdaLayer y
    pub of_new : (y : NewLayer f) → OfNewLayer y
    pub of_reference : (y : ReferenceLayer f) → OfReferenceLayer y

module _ (f : TreeFact) (s : TreeSteps f) where
  expr-has : (x : Plain) (y : Layer f) → plain f y ≡ x → HasExpr f (roll-Expression x)
  expr-has x y is =
      subst (λ z. HasExpr f (roll-Expression z)) is
      (moved f.OfExpr (search (rules, the_lemmas)) (search (rules, the_lemmas)) (search (rules, the_lemmas))
      (s.of_expr y))

  init-has : (x : PlainInit) (y : InitLayer f) → plain_init f y ≡ x → HasInit f (roll-Initialiser x)
  init-has x y is =
      subst (λ z. HasInit f (roll-Initialiser z)) is
      (moved f.OfInit (search (rules, the_lemmas)) (search (rules, the_lemmas)) (search (rules, the_lemmas))
      (s.of_init y))

  behind-has : (x : PlainBehind) (y : BehindLayer f) → plain_behind f y ≡ x → HasBehind f (roll-LambdaBody x)
  behind-has x y is =
      subst (λ z. HasBehind f (roll-LambdaBody z)) is
      (moved f.OfBehind (search (rules, the_lemmas)) (search (rules, the_lemmas)) (search (rules, the_lemmas))
      (s.of_behind y))

  made-has : (x : PlainMade) (y : MadeLayer f) → plain_made f y ≡ x → HasMade f (roll-Made x)
  made-has x y is =
      subst (λ z. HasMade f (roll-Made z)) is
      (moved f.OfMade (search (rules, the_lemmas)) (search (rules, the_lemmas)) (search (rules, the_lemmas))
      (s.of_made y))

  before-has : (x : PlainBefore) (y : BeforeLayer f) → plain_before f y ≡ x → HasBefore f (roll-Referred x)
  before-has x y is =
      subst (λ z. HasBefore f (roll-Referred z)) is
      (moved f.OfBefore (search (rules, the_lemmas)) (search (rules, the_lemmas)) (search (rules, the_lemmas))
      (s.of_before y))

  array-has : (x : PlainArray) (y : ArrayLayer f) → plain_array f y ≡ x → HasItems f (roll-ArrayTree x)
  array-has x y is =
      subst (λ z. HasItems f (roll-ArrayTree z)) is
      (moved f.OfArray (search (rules, the_lemmas)) (search (rules, the_lemmas)) (search (rules, the_lemmas))
      (s.of_items y.items.items y.last_comma))

  call-has : (x : PlainCall) (y : CallLayer f) → plain_call f y ≡ x → HasCall f (roll-CallTree x)
  call-has x y is =
      subst (λ z. HasCall f (roll-CallTree z)) is
      (moved f.OfExpr (search (rules, the_lemmas)) (search (rules, the_lemmas)) (search (rules, the_lemmas))
      (s.of_call y))

  cast-has : (x : PlainCast) (y : CastLayer f) → plain_cast f y ≡ x → HasCast f (roll-CastTree x)
  cast-has x y is =
      subst (λ z. HasCast f (roll-CastTree z)) is
      (moved f.OfExpr (search (rules, the_lemmas)) (search (rules, the_lemmas)) (search (rules, the_lemmas))
      (s.of_cast y))

  instance-has : (x : PlainInstance) (y : InstanceLayer f) → plain_instance f y ≡ x →
      HasInstance f (roll-InstanceTree x)
  instance-has x y is =
      subst (λ z. HasInstance f (roll-InstanceTree z)) is
      (moved f.OfExpr (search (rules, the_lemmas)) (search (rules, the_lemmas)) (search (rules, the_lemmas))
      (s.of_instance y))

  lambda-has : (x : PlainLambda) (y : LambdaLayer f) → plain_lambda f y ≡ x → HasLambda f (roll-LambdaTree x)
  lambda-has x y is =
      subst (λ z. HasLambda f (roll-LambdaTree z)) is
      (moved f.OfExpr (search (rules, the_lemmas)) (search (rules, the_lemmas)) (search (rules, the_lemmas))
      (s.of_lambda y))

  new-has : (x : PlainNew) (y : NewLayer f) → plain_new f y ≡ x → HasNew f (roll-NewTree x)
  new-has x y is =
      subst (λ z. HasNew f (roll-NewTree z)) is
      (moved f.OfExpr (search (rules, the_lemmas)) (search (rules, the_lemmas)) (search (rules, the_lemmas))
      (s.of_new y))

  reference-has : (x : PlainReference) (y : ReferenceLayer f) → plain_reference f y ≡ x →
      HasReference f (roll-ReferenceTree x)
  reference-has x y is =
      subst (λ z. HasReference f (roll-ReferenceTree z)) is
      (moved f.OfExpr (search (rules, the_lemmas)) (search (rules, the_lemmas)) (search (rules, the_lemmas))
      (s.of_reference y))

  pub expr-all : (e : Expression) → HasExpr f e
  expr-all =
      ind-Expression (HasExpr f) (HasInit f) (HasBehind f) (HasMade f) (HasBefore f) (HasItems f) (HasCall f)
      (HasCast f) (HasInstance f) (HasLambda f) (HasNew f) (HasReference f) expr-has init-has behind-has made-has
      before-has array-has call-has cast-has instance-has lambda-has new-has reference-has

  pub init-all : (i : Initialiser) → HasInit f i
  init-all =
      ind-Initialiser (HasExpr f) (HasInit f) (HasBehind f) (HasMade f) (HasBefore f) (HasItems f) (HasCall f)
      (HasCast f) (HasInstance f) (HasLambda f) (HasNew f) (HasReference f) expr-has init-has behind-has made-has
      before-has array-has call-has cast-has instance-has lambda-has new-has reference-has
