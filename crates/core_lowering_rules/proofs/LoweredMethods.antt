-- A fact of lowered code holds of the code of all methods.
use Rattle.std.proofs.Common.{◌≡◌, Bool, true, false, cond, List, [], ◌∷◌, Option, None, refl, subst, sym, ap}
use Rattle.std.specs.Prelude.{codes}
use Rattle.std.specs.List.{flat_map, list_all}
use Rattle.std.proofs.lemmas.Bool.{and_parts}
use Rattle.racer_base.specs.declared.ids.Kind.TheVariants as types
use Rattle.racer_base.specs.declared.ids.Place.{Place}
use Rattle.java_tree.specs.declared.words.Ident.{Ident}
use Rattle.java_tree.specs.declared.methods.FieldInitialiser.{FieldInitialiser}
use Rattle.java_tree.specs.declared.methods.FieldInitialiser.TheVariants as field
use Rattle.java_tree.specs.declared.methods.FieldVariable.{FieldVariable}
use Rattle.java_tree.specs.declared.methods.MethodTree.{MethodTree}
use Rattle.java_tree.specs.declared.unit.Member.{Member}
use Rattle.java_tree.specs.declared.unit.Member.TheVariants as member
use Rattle.java_resolver.specs.Declarations.{is_constructor}
use Rattle.java_resolver.specs.Words.{has_word}
use Rattle.core_code.specs.declared.code.LockKind.TheVariants.{Own}
use Rattle.core_code.specs.declared.code.Reason.{Reason}
use Rattle.core_code.specs.declared.code.Op.TheVariants.{Push, PushClass, PushPrim, Drop, Outside}
use Rattle.core_code.specs.Tree.{Tree, can_end, in_sequence}
use Rattle.core_lowering_rules.specs.TreesOf.{init_of}
use Rattle.core_lowering_rules.specs.ValueKinds.{ValueKind, Of}
use Rattle.core_lowering_rules.specs.ValueKinds as value
use Rattle.core_lowering_rules.specs.Context.{Context, Code, push_owner, push_this, push_own_class, made}
use Rattle.core_lowering_rules.specs.Assignments.{Storage, of_name, kind_in}
use Rattle.core_lowering_rules.specs.Expressions.{init_kind}
use Rattle.core_lowering_rules.specs.Scopes.{after_all}
use Rattle.core_lowering_rules.specs.Statements.{returned, closed, stmts}
use Rattle.core_lowering_rules.specs.Methods.{Body, Default, Spelled, Unspelled, Source, parameters_declared}
use Rattle.core_lowering_rules.specs.Methods.{outside_methods, unread}
use Rattle.core_lowering_rules.specs.Methods.{field_begun, member_begun, fields_begun, body_of, locked, ended}
use Rattle.core_lowering_rules.specs.Methods.{spelled_code, code_in, kinds_in, is_large}
use Rattle.core_lowering_rules.specs.Conditions.{initialiser_places, variable_places, member_places}
use Rattle.core_lowering_rules.proofs.FoundElements.{Each, each-append}
use Rattle.core_lowering_rules.proofs.LoweredFacts.{Grounded, Fact, follows, made_then, made_by_tests}
use Rattle.core_lowering_rules.proofs.LoweredExpressions.{here, assigned-holds, named-stored, init-holds}
use Rattle.core_lowering_rules.proofs.LoweredScopes.{Beside, beside, stays-beside, after_all-beside}
use Rattle.core_lowering_rules.proofs.LoweredStatements.{ran, op-stands}
use Rattle.core_lowering_rules.proofs.LoweredStatements.{returned-stands, block-stands}
use Rattle.core_lowering_rules.proofs.KeptTrees.{init-kept}
use Rattle.core_lowering_rules.proofs.KeptStatements.{stmts-kept}
use Rattle.core_lowering_rules.proofs.KeptPlaces.{each-places, method-places, PlacedBody, PlacedSource}
use Rattle.core_lowering_rules.proofs.ScopeSteps.{goes-parameters}
use Rattle.core_lowering_rules.proofs.StatusesUnseen.{with_statuses, named-same}

abbrev class_pushed : Context → Code
class_pushed context = push_own_class context

abbrev this_pushed : Context → Code
this_pushed context = push_this context

module _ (f : Fact) (statuses : List (Option Reason)) where
  abbrev test : Place → Bool
  test = f.tests.is_place

  abbrev other : Context → Context
  other context = with_statuses statuses context

  abbrev Pair : Context → Context → Type 0
  Pair x c = Beside f statuses x c

  parameters-beside : (c : Context) → Grounded f.tests c → (m : MethodTree) →
      Pair (parameters_declared (other c) m.parameters) (parameters_declared c m.parameters)
  parameters-beside c g m =
      goes-parameters (stays-beside f statuses) (other c) c m.parameters (beside f statuses g)

  all-hold : {X : Type 0} (F G : X → Code) (P : X → Type 0) → ((x : X) → P x → f.Stands (F x) (G x)) →
      (xs : List X) → Each P xs → f.Stands (flat_map F xs) (flat_map G xs)
  all-hold F G P step [] all = f.none
  all-hold F G P step (x ∷ xs) all = follows f (step x all.0) (all-hold F G P step xs all.1)

  -- ---- what fields begin with

  unread-holds : (c : Context) → Grounded f.tests c → (v : ValueKind) → f.Holds (unread (other c) v) (unread c v)
  unread-holds c g value.Null = here f statuses c g (Outside 0) refl
  unread-holds c g (Of types.Plain) = here f statuses c g PushPrim refl
  unread-holds c g (Of (types.Declared i)) = here f statuses c g (Outside 0) refl
  unread-holds c g (Of types.Other) = here f statuses c g (Outside 0) refl

  field-holds : (c : Context) → Grounded f.tests c → (x : Ident) (i : FieldInitialiser) → test x.place ≡ true →
      list_all test (initialiser_places i) ≡ true → f.Stands (field_begun (other c) x i) (field_begun c x i)
  field-holds c g x field.Absent h k = f.none
  field-holds c g x (field.Formed i) h k =
      let p = init-kept test i [] k in
      ran f statuses c g Drop refl
      (assigned-holds f statuses c g (of_name (other c) x) (of_name c x) (named-stored f statuses c g x h)
      (init_kind (other c) (init_of i)) (init_kind c (init_of i)) (init-holds f statuses c g (init_of i) p.0))
  field-holds c g x field.Unread h k =
      ran f statuses c g Drop refl
      (assigned-holds f statuses c g (of_name (other c) x) (of_name c x) (named-stored f statuses c g x h)
      (Of types.Other) (Of types.Other)
      (subst (λ (s : Storage). f.Holds (unread (other c) (kind_in s)) (unread c (kind_in (of_name c x))))
      (sym (named-same statuses c x)) (unread-holds c g (kind_in (of_name c x)))))

  by-static : (b : Bool) {a d : Code} → f.Stands a d → f.Stands (cond b [] a) (cond b [] d)
  by-static true p = f.none
  by-static false p = p

  member-holds : (c : Context) → Grounded f.tests c → (x : Member) → list_all test (member_places x) ≡ true →
      f.Stands (member_begun (other c) x) (member_begun c x)
  member-holds c g (member.Field t) h =
      by-static (has_word (codes "static") t.modifiers)
      (all-hold (λ (v : FieldVariable). field_begun (other c) v.name v.initialiser)
      (λ (v : FieldVariable). field_begun c v.name v.initialiser) (λ v. list_all test (variable_places v) ≡ true)
      (λ v k. field-holds c g v.name v.initialiser (and_parts (test v.name.place) _ k).0
      (and_parts (test v.name.place) _ k).1) t.variables (each-places test variable_places t.variables h))
  member-holds c g (member.Method t) h = f.none
  member-holds c g (member.Outside o) h = f.none
  member-holds c g (member.Skipped place) h = f.none

  fields-hold : (c : Context) → Grounded f.tests c → (xs : List Member) →
      list_all test (flat_map member_places xs) ≡ true → f.Stands (fields_begun (other c) xs) (fields_begun c xs)
  fields-hold c g xs h =
      let bare : Context = outside_methods c in
      let grounded : Grounded f.tests bare =
      record {
        known = g.known;
        here = g.here;
        class = g.class;
        given = g.given;
        kinds = g.kinds;
      } in
      all-hold (member_begun (other bare)) (member_begun bare) (λ x. list_all test (member_places x) ≡ true)
      (member-holds bare grounded) xs (each-places test member_places xs h)

  -- ---- ends

  ended-holds : (c : Context) → Grounded f.tests c → (a b : List Tree) → f.Made a b →
      f.Made (ended (other c) a) (ended c b)
  ended-holds c g a b p =
      made_by_tests f (can_end (in_sequence a)) (can_end (in_sequence b)) (f.same_end a b p)
      (made_then f p (f.making (returned (other c) None) (returned c None)
      (returned-stands f statuses (other c) c (beside f statuses g) None tt))) p

  -- ---- methods

  owner-stands : (c : Context) → Grounded f.tests c → f.Stands (push_owner (other c)) (push_owner c)
  owner-stands c g = by c.scope.is_static
    where
      by : (b : Bool) →
          f.Stands (cond b (class_pushed (other c)) (this_pushed (other c))) (cond b (class_pushed c) (this_pushed c))
      by true = op-stands f statuses (other c) c (beside f statuses g) (PushClass c.scope.class) g.class
      by false = op-stands f statuses (other c) c (beside f statuses g) (Push (record { 0 = 0 })) refl

  locked-holds : (c : Context) → Grounded f.tests c → (is_locked : Bool) {a b : List Tree} → f.Made a b →
      f.Made (locked (other c) is_locked a) (locked c is_locked b)
  locked-holds c g true {a} {b} p =
      made_then f (f.making (push_owner (other c)) (push_owner c) (owner-stands c g))
      (f.made_locked Own c.place a b g.here p)
  locked-holds c g false p = p

  made-by : (b : Bool) {a c d e : List Tree} → f.Made a c → f.Made d e → f.Made (cond b a d) (cond b c e)
  made-by true p q = p
  made-by false p q = q

  spelled-holds : (c : Context) → Grounded f.tests c → (xs : List Member) (t : MethodTree) →
      list_all test (flat_map member_places xs) ≡ true → PlacedBody test (Spelled t) →
      f.Made (spelled_code (other c) xs t) (spelled_code c xs t)
  spelled-holds c g xs t h k =
      let places = method-places test t k in
      let ss = stmts-kept test t.body [] places.1 in
      let block = f.making (closed (other c) (after_all (other c) (body_of t)) (stmts (other c) (body_of t)))
      (closed c (after_all c (body_of t)) (stmts c (body_of t)))
      (block-stands f statuses (other c) c (beside f statuses g) (body_of t) ss.0) in
      let body = locked-holds c g (has_word (codes "synchronized") t.modifiers) block in
      made-by (is_constructor t.result)
      (made_then f (f.making (fields_begun (other c) xs) (fields_begun c xs) (fields-hold c g xs h)) body) body

  moved : (x c : Context) → Pair x c → (F : Context → List Tree) →
      (Grounded f.tests c → f.Made (F (other c)) (F c)) → f.Made (F x) (F c)
  moved x c b F step = subst (λ (y : Context). f.Made (F y) (F c)) (sym b.same) (step b.grounded)

  pub in-holds : (c : Context) → Grounded f.tests c → (s : Source) → PlacedSource test s → (body : Body) →
      PlacedBody test body → f.Made (code_in (other c) s body) (code_in c s body)
  in-holds c g s placed Default p =
      ended-holds c g (made (fields_begun (other c) s.members)) (made (fields_begun c s.members))
      (f.making (fields_begun (other c) s.members) (fields_begun c s.members)
      (fields-hold c g s.members placed.members))
  in-holds c g s placed (Spelled t) p =
      let y = parameters_declared (other c) t.parameters in
      let d = parameters_declared c t.parameters in
      let beside_it = parameters-beside c g t in
      made_by_tests f (is_large y t) (is_large d t) (ap (λ (z : Context). is_large z t) beside_it.same) f.made_nothing
      (moved y d beside_it (λ z. ended z (spelled_code z s.members t))
      (λ h. ended-holds d h (spelled_code (other d) s.members t) (spelled_code d s.members t)
      (spelled-holds d h s.members t placed.members p)))
  in-holds c g s placed Unspelled p = f.made_nothing

  -- the kinds of all variables may stand there
  pub kinds-hold : (c : Context) → Grounded f.tests c → (s : Source) →
      Each (λ k. f.tests.is_kind k ≡ true) s.info.parameters → (body : Body) →
      Each (λ k. f.tests.is_kind k ≡ true) (kinds_in c s body)
  kinds-hold c g s right Default = g.kinds
  kinds-hold c g s right (Spelled t) =
      let end = after_all-beside f statuses (parameters_declared (other c) t.parameters)
      (parameters_declared c t.parameters) (parameters-beside c g t) (body_of t) in
      let h = end.grounded in h.kinds
  kinds-hold c g s right Unspelled =
      each-append (λ k. f.tests.is_kind k ≡ true) c.kinds s.info.parameters g.kinds right
