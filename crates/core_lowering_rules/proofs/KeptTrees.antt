-- The trees that are lowered are placed where the places that the code's trees keep are.
use Rattle.std.proofs.Common.{◌≡◌, ℕ, Bool, true, false, cond, List, [], ◌∷◌, Option, Some, None, map}
use Rattle.std.proofs.Common.{Box, Vec, Global}
use Rattle.std.specs.Prelude.{option_map, codes, bytes_eq}
use Rattle.java_tree.specs.declared.statements.ResourcesTree.{ResourcesTree}
use Rattle.std.proofs.lemmas.Bool.{and_parts}
use Rattle.racer_base.specs.declared.ids.Place.{Place}
use Rattle.java_lexer.specs.declared.token.TokenKind.{TokenKind}
use Rattle.java_lexer.specs.declared.token.TokenKind.TheVariants as token
use Rattle.java_tree.specs.Words.{keyword}
use Rattle.java_tree.specs.declared.words.Ident.{Ident}
use Rattle.java_tree.specs.declared.words.Spelled.{Spelled}
use Rattle.java_tree.specs.declared.types.TypeTree.{TypeTree}
use Rattle.java_tree.specs.Trees.{Ty}
use Rattle.java_tree.specs.View.{ty_of}
use Rattle.java_tree.specs.declared.methods.ModifierTree.{ModifierTree}
use Rattle.java_tree.specs.declared.expressions.Expression.{Expression}
use Rattle.java_tree.specs.declared.expressions.Initialiser.{Initialiser}
use Rattle.java_tree.specs.declared.expressions.Expression.TheOpen as expression
use Rattle.java_tree.specs.declared.statements.VariableTree.{VariableTree}
use Rattle.java_tree.specs.declared.statements.LocalsTree.{LocalsTree}
use Rattle.java_tree.specs.declared.statements.StartTree.{StartTree}
use Rattle.java_tree.specs.declared.statements.StartTree.TheVariants as start
use Rattle.java_tree.specs.declared.statements.LabelTree.{LabelTree}
use Rattle.java_tree.specs.declared.statements.LabelTree.TheVariants as label
use Rattle.java_tree.specs.declared.statements.ResourceTree.{ResourceTree}
use Rattle.java_tree.specs.KeptPlaces.{Places, Marks, some_onto, each_marks, modifier_marks, no_place, no_places}
use Rattle.java_tree.specs.KeptPlaces.{all_places, made_places, behind_places, name_or_new}
use Rattle.java_tree.specs.KeptPlaces.{Puts, each_puts, maybe_puts, name_places, ty_places, expr_places, init_places}
use Rattle.java_tree.specs.KeptPlaces.{variable_places, locals_places, start_places}
use Rattle.java_tree.specs.KeptPlaces.{label_places}
use Rattle.java_tree.specs.KeptPlaces.{resource_places, resources_places}
use Rattle.core_lowering_rules.specs.Trees.{Expr, Unknown, This, ClassOf, Read, Unary, Cast, Binary, Logical}
use Rattle.core_lowering_rules.specs.Trees.{Conditional}
use Rattle.core_lowering_rules.specs.Trees.{Assign, Combine, Count, Call, CallOn, New, NewBody, NewArray, NewItems}
use Rattle.core_lowering_rules.specs.Trees.{Paren}
use Rattle.core_lowering_rules.specs.Trees.{ThisOf, Refer}
use Rattle.core_lowering_rules.specs.Trees as tree
use Rattle.core_lowering_rules.specs.Trees.{Stmt, pack_exprs, pack_inits, pack_stmts, pack_groups}
use Rattle.core_lowering_rules.specs.TreesOf.{access_of, literal, is_assignment, is_logical}
use Rattle.core_lowering_rules.specs.TreesOf.{is_count}
use Rattle.core_lowering_rules.specs.TreesOf.{expr_of, init_of, condition_of, variable_of, start_of, resource_of}
use Rattle.core_lowering_rules.specs.TreesOf.{resources_of}
use Rattle.core_lowering_rules.proofs.TreeLayers.{TreeFact, HasExpr, HasInit, Exprs, Initialisers, Layer, InitLayer}
use Rattle.core_lowering_rules.proofs.TreeLayers.{BehindLayer, MadeLayer, BeforeLayer, CallLayer, CastLayer}
use Rattle.core_lowering_rules.proofs.TreeLayers.{InstanceLayer, LambdaLayer, NewLayer, ReferenceLayer}
use Rattle.core_lowering_rules.proofs.TreeSteps.{OfLayer, OfInitLayer, OfBehindLayer, OfMadeLayer, OfBeforeLayer}
use Rattle.core_lowering_rules.proofs.TreeSteps.{OfCallLayer, OfCastLayer, OfInstanceLayer, OfLambdaLayer, OfNewLayer}
use Rattle.core_lowering_rules.proofs.TreeSteps.{OfReferenceLayer, TreeSteps, expr-all, init-all}
use Rattle.core_lowering_rules.proofs.PlacedTrees.{PlacedExpr, PlacedAccess, PlacedExprs, PlacedInit, PlacedInits}
use Rattle.core_lowering_rules.proofs.PlacedTrees.{PlacedOption, PlacedBegin, PlacedVariables, PlacedStart}
use Rattle.core_lowering_rules.proofs.PlacedTrees.{PlacedCondition, PlacedResources}
use Rattle.core_lowering_rules.proofs.KeptPlaces.{Kept, some-behind, each-behind, place-behind, modifier-behind}

module _ (test : Place → Bool) where
  -- where the places that are put before some pass, and these, this holds, and these pass
  abbrev pub Splits : Puts → Type 0 → Type 0
  Splits puts P = (rest : Marks) → Kept test (puts rest) → P × Kept test rest

  abbrev pub keeping : TreeFact
  keeping =
      record {
        OfExpr = λ v puts t. Splits puts (PlacedExpr test t);
        OfInit = λ v puts t. Splits puts (PlacedInit test t);
        OfBehind = λ v puts t. Splits puts (Unit {0});
        OfMade = λ v puts made. (place : Place) (t : Ty) → test place ≡ true →
            Splits puts (PlacedExpr test (made place t));
        OfBefore = λ v puts t. Splits puts (PlacedExpr test (Refer t));
        OfArray = λ v puts t. Splits puts (PlacedInits test t);
      }

  pub front : (p : Place) (rest : Marks) → Kept test (Some p ∷ rest) → test p ≡ true
  front p rest h = (and_parts (test p) _ h).0

  pub after : (p : Place) (rest : Marks) → Kept test (Some p ∷ rest) → Kept test rest
  after p rest h = (and_parts (test p) _ h).1

  pub behind : (ps : Places) (rest : Marks) → Kept test (some_onto ps rest) → Kept test rest
  behind ps rest h = some-behind test ps rest h

  pub behind_tokens : (ts : List Spelled) (rest : Marks) → Kept test (no_places ts rest) → Kept test rest
  behind_tokens ts rest h = each-behind test no_place (place-behind test) ts rest h

  pub behind_modifiers : (ms : List ModifierTree) (rest : Marks) → Kept test (each_marks modifier_marks ms rest) →
      Kept test rest
  behind_modifiers ms rest h = each-behind test modifier_marks (modifier-behind test) ms rest h

  -- ---- expressions

  access-placed : (e : Expr) → PlacedExpr test e → PlacedAccess test (access_of e)
  access-placed (Read a) h = h
  access-placed tree.Prim h = tt
  access-placed Unknown h = tt
  access-placed tree.Null h = tt
  access-placed This h = tt
  access-placed (ClassOf xs) h = tt
  access-placed (ThisOf xs) h = tt
  access-placed (Refer to) h = tt
  access-placed (Unary e) h = tt
  access-placed (Cast t e) h = tt
  access-placed (Binary a b) h = tt
  access-placed (Logical a b) h = tt
  access-placed (Conditional c a b) h = tt
  access-placed (Assign a e) h = tt
  access-placed (Combine a e) h = tt
  access-placed (Count a) h = tt
  access-placed (Call x es) h = tt
  access-placed (CallOn e x es) h = tt
  access-placed (New place t es) h = tt
  access-placed (NewBody place t es) h = tt
  access-placed (NewArray place lengths) h = tt
  access-placed (NewItems place items) h = tt
  access-placed (Paren e) h = tt

  either-placed : (b : Bool) (s t : Expr) → PlacedExpr test s → PlacedExpr test t → PlacedExpr test (cond b s t)
  either-placed true s t p q = p
  either-placed false s t p q = q

  literal-placed : (k : TokenKind) (text : List ℕ) → PlacedExpr test (literal k text)
  literal-placed token.Name text = tt
  literal-placed token.Keyword text = tt
  literal-placed token.Fixed text = either-placed (bytes_eq text (codes "null")) tree.Null tree.Prim tt tt
  literal-placed token.Number text = tt
  literal-placed token.Character text = tt
  literal-placed token.Text text = tt
  literal-placed token.Sign text = tt

  exprs-split : (es : List (Exprs keeping)) →
      Splits (each_puts (map expr_places (map (λ e. e.0) es)))
      (PlacedExprs test (pack_exprs (map expr_of (map (λ e. e.0) es))))
  exprs-split [] rest h = (tt, h)
  exprs-split (e ∷ es) rest h =
      let p = e.1 (each_puts (map expr_places (map (λ e. e.0) es)) rest) h in
      let q = exprs-split es rest p.1 in ((p.0, q.0), q.1)

  inits-split : (is : List (Initialisers keeping)) →
      Splits (each_puts (map init_places (map (λ e. e.0) is)))
      (PlacedInits test (pack_inits (map init_of (map (λ e. e.0) is))))
  inits-split [] rest h = (tt, h)
  inits-split (i ∷ is) rest h =
      let p = i.1 (each_puts (map init_places (map (λ e. e.0) is)) rest) h in
      let q = inits-split is rest p.1 in ((p.0, q.0), q.1)

  names-split : (xs : List Ident) (rest : Marks) → Kept test (each_puts (map name_places xs) rest) → Kept test rest
  names-split [] rest h = h
  names-split (x ∷ xs) rest h = names-split xs rest (after x.place (each_puts (map name_places xs) rest) h)

  -- behind the name or the `new` that a method reference ends with
  behind_end : (x : Option Ident) (rest : Marks) → Kept test (name_or_new x rest) → Kept test rest
  behind_end None rest h = place-behind test (keyword (codes "new")) rest h
  behind_end (Some x) rest h = after x.place rest h

  expr-split : (y : Layer keeping) → OfLayer keeping y
  expr-split (expression.Assign a op b) rest h =
      let p = a.value.1 (expr_places b.value.0 rest) h in
      let q = b.value.1 rest p.1 in
      let access = access-placed (expr_of a.value.0) p.0 in (
        either-placed (is_assignment op) (Assign (access_of (expr_of a.value.0)) (expr_of b.value.0))
            (Combine (access_of (expr_of a.value.0)) (expr_of b.value.0)) (access, q.0) (access, q.0),
        q.1,
      )
  expr-split (expression.Conditional a b c) rest h =
      let p = a.value.1 (expr_places b.value.0 (expr_places c.value.0 rest)) h in
      let q = b.value.1 (expr_places c.value.0 rest) p.1 in
      let r = c.value.1 rest q.1 in ((p.0, q.0, r.0), r.1)
  expr-split (expression.Binary a op b) rest h =
      let p = a.value.1 (expr_places b.value.0 rest) h in
      let q = b.value.1 rest p.1 in (
        either-placed (is_logical op) (Logical (expr_of a.value.0) (expr_of b.value.0))
            (Binary (expr_of a.value.0) (expr_of b.value.0)) (p.0, q.0) (p.0, q.0),
        q.1,
      )
  expr-split (expression.InstanceOf a) rest h = a.value.1 rest h
  expr-split (expression.Prefix op a) rest h =
      let p = a.value.1 rest h in (
        either-placed (is_count op) (Count (access_of (expr_of a.value.0))) (Unary (expr_of a.value.0))
            (access-placed (expr_of a.value.0) p.0) p.0,
        p.1,
      )
  expr-split (expression.Cast a) rest h = a.value.1 rest h
  expr-split (expression.Postfix a op) rest h =
      let p = a.value.1 rest h in (access-placed (expr_of a.value.0) p.0, p.1)
  expr-split (expression.Literal k text) rest h = (literal-placed k text, h)
  expr-split expression.This rest h = (tt, h)
  expr-split (expression.Name x) rest h = (front x.place rest h, after x.place rest h)
  expr-split (expression.Paren a) rest h = a.value.1 rest h
  expr-split (expression.Field a x) rest h =
      let p = a.value.1 (Some x.place ∷ rest) h in ((p.0, front x.place rest p.1), after x.place rest p.1)
  expr-split (expression.Index a i) rest h =
      let p = a.value.1 (expr_places i.value.0 rest) h in
      let q = i.value.1 rest p.1 in ((p.0, q.0), q.1)
  expr-split (expression.Call c) rest h = c.value.1 rest h
  expr-split (expression.ClassOf xs) rest h = (tt, names-split xs.items rest h)
  expr-split (expression.New n) rest h = n.value.1 rest h
  expr-split (expression.Lambda l) rest h = l.value.1 rest h
  expr-split (expression.Reference r) rest h = r.value.1 rest h
  expr-split (expression.PlainClass t) rest h = (tt, behind (ty_places t) rest h)
  expr-split (expression.ThisOf xs) rest h = (tt, names-split xs.items rest h)

  behind-split : (y : BehindLayer keeping) → OfBehindLayer keeping y
  behind-split (expression.Gives a) rest h = let p = a.1 rest h in (tt, p.1)
  behind-split (expression.Block block) rest h = (tt, behind_tokens block rest h)

  made-split : (y : MadeLayer keeping) → OfMadeLayer keeping y
  made-split (expression.Object all) place t passes rest h =
      let q = exprs-split all.items rest h in ((passes, q.0), q.1)
  made-split (expression.Anonymous all body) place t passes rest h =
      let q = exprs-split all.items (no_places body rest) h in ((passes, q.0), behind_tokens body rest q.1)
  made-split (expression.Array lengths n) place t passes rest h =
      let q = exprs-split lengths.items rest h in ((passes, q.0), q.1)
  made-split (expression.Filled n items) place t passes rest h = let q = items.1 rest h in ((passes, q.0), q.1)

  before-split : (y : BeforeLayer keeping) → OfBeforeLayer keeping y
  before-split (expression.Of a) rest h = a.1 rest h
  before-split (expression.Type t) rest h = (tt, behind (ty_places t) rest h)
  before-split expression.Super rest h = (tt, h)

  called-split : (on : Option (Box (Exprs keeping) Global)) (types : List TypeTree) (glued : Bool) (x : Ident)
      (all : Vec (Exprs keeping) Global) →
      OfCallLayer keeping
      (record { receiver = on; types = types; glued = glued; name = x; arguments = all })
  called-split None types glued x all rest h =
      let others = each_puts (map expr_places (map (λ e. e.0) all.items)) rest in
      let q = exprs-split all.items rest (after x.place others h) in ((front x.place others h, q.0), q.1)
  called-split (Some a) types glued x all rest h =
      let others = each_puts (map expr_places (map (λ e. e.0) all.items)) rest in
      let places = all_places (map ty_places types) in
      let p = a.value.1 (some_onto places (Some x.place ∷ others)) h in
      let k = behind places (Some x.place ∷ others) p.1 in
      let q = exprs-split all.items rest (after x.place others k) in ((p.0, front x.place others k, q.0), q.1)

  call-split : (y : CallLayer keeping) → OfCallLayer keeping y
  call-split y = called-split y.receiver y.types y.glued y.name y.arguments

  cast-split : (y : CastLayer keeping) → OfCastLayer keeping y
  cast-split y rest h = y.value.1 rest (behind (all_places (map ty_places y.types)) (expr_places y.value.0 rest) h)

  instance-split : (y : InstanceLayer keeping) → OfInstanceLayer keeping y
  instance-split y rest h =
      let p = y.value.1 (some_onto (ty_places y.kind) rest) h in (p.0, behind (ty_places y.kind) rest p.1)

  lambda-split : (y : LambdaLayer keeping) → OfLambdaLayer keeping y
  lambda-split y rest h =
      let p = y.body.1 rest (behind_tokens y.parameters (behind_places y.body.0 rest) h) in (tt, p.1)

  new-split : (y : NewLayer keeping) → OfNewLayer keeping y
  new-split y rest h =
      let others = made_places y.made.0 rest in
      let from = some_onto (ty_places y.kind) others in
      y.made.1 y.place (ty_of y.kind) (front y.place from h) rest
      (behind (ty_places y.kind) others (after y.place from h))

  reference-split : (y : ReferenceLayer keeping) → OfReferenceLayer keeping y
  reference-split y rest h =
      let places = all_places (map ty_places y.types) in
      let p = y.of.1 (some_onto places (name_or_new y.name rest)) h in
      (p.0, behind_end y.name rest (behind places (name_or_new y.name rest) p.1))

  init-split : (y : InitLayer keeping) → OfInitLayer keeping y
  init-split (expression.Value e) rest h = e.1 rest h
  init-split (expression.Items items) rest h = items.1 rest h

  steps : TreeSteps keeping
  steps =
      record {
        of_expr = expr-split;
        of_init = init-split;
        of_behind = behind-split;
        of_made = made-split;
        of_before = before-split;
        of_items = λ is comma rest h. inits-split is rest h;
        of_call = call-split;
        of_cast = cast-split;
        of_instance = instance-split;
        of_lambda = lambda-split;
        of_new = new-split;
        of_reference = reference-split;
      }

  pub expr-kept : (e : Expression) → HasExpr keeping e
  expr-kept = expr-all keeping steps

  pub init-kept : (i : Initialiser) → HasInit keeping i
  init-kept = init-all keeping steps

  -- ---- parts of statements

  pub all-kept : (es : List Expression) →
      Splits (each_puts (map expr_places es)) (PlacedExprs test (pack_exprs (map expr_of es)))
  all-kept [] rest h = (tt, h)
  all-kept (e ∷ es) rest h =
      let p = expr-kept e (each_puts (map expr_places es) rest) h in
      let q = all-kept es rest p.1 in ((p.0, q.0), q.1)

  pub some-kept : (o : Option Expression) →
      Splits (maybe_puts (option_map expr_places o)) (PlacedOption test (option_map expr_of o))
  some-kept None rest h = (tt, h)
  some-kept (Some e) rest h = expr-kept e rest h

  begin-kept : (o : Option Initialiser) →
      Splits (maybe_puts (option_map init_places o)) (PlacedBegin test (option_map init_of o))
  begin-kept None rest h = (tt, h)
  begin-kept (Some i) rest h = init-kept i rest h

  variables-kept : (vs : List VariableTree) →
      Splits (each_puts (map variable_places vs)) (PlacedVariables test (map variable_of vs))
  variables-kept [] rest h = (tt, h)
  variables-kept (v ∷ vs) rest h =
      let others = each_puts (map variable_places vs) rest in
      let p = begin-kept v.initialiser others
      (after v.name.place (maybe_puts (option_map init_places v.initialiser) others) h) in
      let q = variables-kept vs rest p.1 in ((p.0, q.0), q.1)

  pub locals-kept : (l : LocalsTree) → Splits (locals_places l) (PlacedVariables test (map variable_of l.variables))
  locals-kept l rest h =
      let others = each_puts (map variable_places l.variables) rest in
      variables-kept l.variables rest
      (behind (ty_places l.kind) others (behind_modifiers l.modifiers (some_onto (ty_places l.kind) others) h))

  pub start-kept : (i : StartTree) → Splits (start_places i) (PlacedStart test (start_of i))
  start-kept (start.Local l) rest h = locals-kept l rest h
  start-kept (start.Expressions all) rest h = all-kept all rest h

  pub tested-kept : (o : Option Expression) →
      Splits (maybe_puts (option_map expr_places o)) (PlacedCondition test (option_map condition_of o))
  tested-kept None rest h = (tt, h)
  tested-kept (Some e) rest h = expr-kept e rest h

  list-kept : (rs : List ResourceTree) →
      Splits (each_puts (map resource_places rs)) (PlacedResources test (map resource_of rs))
  list-kept [] rest h = (tt, h)
  list-kept (r ∷ rs) rest h =
      let others = each_puts (map resource_places rs) rest in
      let p = expr-kept r.value others
      (after r.name.place (expr_places r.value others)
      (behind (ty_places r.kind) (Some r.name.place ∷ expr_places r.value others)
      (behind_modifiers r.modifiers
      (some_onto (ty_places r.kind) (Some r.name.place ∷ expr_places r.value others)) h))) in
      let q = list-kept rs rest p.1 in ((p.0, q.0), q.1)

  pub resources-kept : (o : Option ResourcesTree) →
      Splits (maybe_puts (option_map resources_places o)) (PlacedResources test (resources_of o))
  resources-kept None rest h = (tt, h)
  resources-kept (Some rs) rest h = list-kept rs.items rest h

  -- nothing is said of labels, and of what is not lowered: only that places behind them pass
  pub labels-kept : (ls : List LabelTree) → Splits (each_puts (map label_places ls)) (Unit {0})
  labels-kept [] rest h = (tt, h)
  labels-kept (label.Case e ∷ ls) rest h =
      let p = expr-kept e (each_puts (map label_places ls) rest) h in labels-kept ls rest p.1
  labels-kept (label.Default ∷ ls) rest h = labels-kept ls rest h

  pub name-kept : (o : Option Ident) → Splits (maybe_puts (option_map name_places o)) (Unit {0})
  name-kept None rest h = (tt, h)
  name-kept (Some x) rest h = (tt, after x.place rest h)
