-- A fact of lowered code holds of the code of all expressions.
use Rattle.std.proofs.Common.{◌≡◌, ℕ, suc, ◌-◌, ◌==◌, length, Bool, true, false, cond, List, [], ◌∷◌, ◌++◌, Option}
use Rattle.std.proofs.Common.{Some, None, refl}
use Rattle.std.proofs.Common.{subst, sym}
use Rattle.std.proofs.lemmas.Option.{same_Some, none-some}
use Rattle.racer_base.specs.declared.ids.ClassId.{ClassId}
use Rattle.racer_base.specs.declared.ids.FieldId.{FieldId}
use Rattle.racer_base.specs.declared.ids.MethodId.{MethodId}
use Rattle.racer_base.specs.declared.ids.Kind.{Kind}
use Rattle.racer_base.specs.declared.ids.Kind.TheVariants as types
use Rattle.racer_base.specs.declared.ids.Place.{Place}
use Rattle.java_tree.specs.declared.words.Ident.{Ident}
use Rattle.java_resolver.specs.declared.infos.FieldInfo.{FieldInfo}
use Rattle.java_resolver.specs.declared.infos.MethodInfo.{MethodInfo}
use Rattle.java_resolver.specs.declared.scope.Meaning.{Meaning}
use Rattle.java_resolver.specs.declared.scope.Meaning.TheVariants as means
use Rattle.java_resolver.specs.Declarations.{constructor_name}
use Rattle.java_resolver.specs.Meanings.{field_named, found}
use Rattle.core_code.specs.declared.code.Reason.{Reason}
use Rattle.core_code.specs.declared.code.Op.{Op as CoreOp}
use Rattle.core_code.specs.declared.code.Op.TheVariants.{Push, PushClass, PushPrim, PushNull, New as NewOp, Dup, Drop}
use Rattle.core_code.specs.declared.code.Op.TheVariants.{Get, Put, Set, Prim, Outside, Call as CallOp, Unread}
use Rattle.core_lowering_rules.specs.Trees.{Expr, Unknown, This, ClassOf, Read, Unary, Cast, Binary, Logical}
use Rattle.core_lowering_rules.specs.Trees.{Conditional}
use Rattle.core_lowering_rules.specs.Trees.{Assign, Combine, Count, Call, CallOn, New, NewBody, NewArray, NewItems}
use Rattle.core_lowering_rules.specs.Trees.{Paren}
use Rattle.core_lowering_rules.specs.Trees.{ThisOf, Refer, ToExpr, ToType}
use Rattle.core_lowering_rules.specs.Trees.{Access}
use Rattle.core_lowering_rules.specs.Trees.{Named, Selected, Element, NoAccess, Exprs, no_expr, expr_then, Init, Value}
use Rattle.core_lowering_rules.specs.Trees.{Items, Inits, no_init, init_then, count_exprs, count_inits}
use Rattle.core_lowering_rules.specs.Trees as tree
use Rattle.core_lowering_rules.specs.ValueKinds.{ValueKind, Of, is_converted}
use Rattle.core_lowering_rules.specs.ValueKinds as value
use Rattle.core_lowering_rules.specs.Context.{Context, Code, op, op_at, converted, push_this, push_own_class}
use Rattle.core_lowering_rules.specs.Context.{push_owner}
use Rattle.core_lowering_rules.specs.Context.{type_kind, meaning_of, is_analysed}
use Rattle.core_lowering_rules.specs.Assignments.{Storage, InVariable, InField, Elsewhere, in_field, of_meaning}
use Rattle.core_lowering_rules.specs.Assignments.{of_name}
use Rattle.core_lowering_rules.specs.Assignments.{of_class, of_object, selected, read, assigned, combined}
use Rattle.core_lowering_rules.specs.Assignments.{counted, field_at}
use Rattle.core_lowering_rules.specs.Calls.{Callee, Missing, OfClass, OfObject, info_at, callee_of, callee_found}
use Rattle.core_lowering_rules.specs.Calls.{callee_in}
use Rattle.core_lowering_rules.specs.Calls.{if_static, own_callee, callee_on, parameters_of, parameter_kinds}
use Rattle.core_lowering_rules.specs.Calls.{with_object, call_at}
use Rattle.core_lowering_rules.specs.Calls.{Passing, called, called_on_value, called_on, constructor_of}
use Rattle.core_lowering_rules.specs.Calls.{constructor_among}
use Rattle.core_lowering_rules.specs.Calls.{constructor_in, made_by, made}
use Rattle.core_lowering_rules.specs.Expressions.{class_before, class_written, class_object, this_object, is_own_class}
use Rattle.core_lowering_rules.specs.Expressions.{is_evaluated, referred, kind, cast, code}
use Rattle.core_lowering_rules.specs.Expressions.{stored, storage, passed, init_code, items_code}
use Rattle.core_lowering_rules.proofs.FoundElements.{field-there}
use Rattle.core_lowering_rules.proofs.LoweredFacts.{Tests, Grounded, Fact, is_value, joined, joined_3, joined_4, either}
use Rattle.core_lowering_rules.proofs.LoweredFacts.{by_test, longer, shorter}
use Rattle.core_lowering_rules.proofs.LoweredTouches.{base, with_base, IsNamePlaced, Stored, touched-holds}
use Rattle.core_lowering_rules.proofs.PlacedTrees.{PlacedExpr, PlacedAccess, PlacedExprs, PlacedInit, PlacedInits}
use Rattle.core_lowering_rules.proofs.StatusesUnseen.{with_statuses, named-same, selected-same, callee-same}
use Rattle.core_lowering_rules.proofs.StatusesUnseen.{class_before-same, is_evaluated-same, kind-same}

-- ---- what is called

abbrev IsThere : Tests → Callee → Type 0
IsThere t Missing = Unit {0}
IsThere t (OfClass m) = t.is_method m ≡ true
IsThere t (OfObject m) = t.is_method m ≡ true

module _ (f : Fact) (statuses : List (Option Reason)) (context : Context) (g : Grounded f.tests context) where
  abbrev other : Context
  other = with_statuses statuses context

  abbrev IsPlace : Place → Type 0
  IsPlace place = f.tests.is_place place ≡ true

  abbrev IsNamed : CoreOp → Type 0
  IsNamed o = is_value f.tests.is_class f.tests.is_method o ≡ true

  -- ---- operations

  pub here : (o : CoreOp) → IsNamed o → f.Holds (op context o) (op context o)
  here o h = f.single context.place o g.here h

  pub conv : (j k : Kind) (v w : ValueKind) → f.Holds (converted other j v) (converted context k w)
  conv j k v w = by (is_converted j v) (is_converted k w)
    where
      by : (a b : Bool) → f.Holds (cond a (op context (Outside 1)) []) (cond b (op context (Outside 1)) [])
      by true true = here (Outside 1) refl
      by true false = f.added context.place (Outside 1) g.here refl refl
      by false true = f.missing context.place (Outside 1) g.here refl refl
      by false false = f.nothing

  this-pushed : f.Holds (push_this context) (push_this context)
  this-pushed = here (Push (record { 0 = 0 })) refl

  class-pushed : f.Holds (push_own_class context) (push_own_class context)
  class-pushed = here (PushClass context.scope.class) g.class

  pub owner-pushed : f.Holds (push_owner context) (push_owner context)
  owner-pushed = by_test f context.scope.is_static class-pushed this-pushed

  -- ---- what is done with what is stored

  pub assigned-holds : (s t : Storage) → Stored f s t → (v w : ValueKind) {d e : Code} → f.Holds d e →
      f.Holds (assigned other s v d) (assigned context t w e)
  assigned-holds s t h v w {d} {e} p =
      subst (λ (r : Storage). f.Holds (assigned other r v d) (assigned context t w e)) (sym h.same)
      (by t h.own h.holds h.placed)
    where
      by : (t : Storage) (b : Code) → f.Holds b (base t) → IsNamePlaced f.tests t →
          f.Holds (assigned other (with_base b t) v d) (assigned context t w e)
      by (InVariable i k) b q n = joined_3 f p (conv k k v w) (here (Set i) refl)
      by (InField i k name c) b q n = joined_4 f q p (conv k k v w) (f.single name (Put i) n refl)
      by (Elsewhere m c) b q n = joined_3 f q p (here (Outside (suc m)) refl)

  read-holds : (s t : Storage) → Stored f s t → f.Holds (read other s) (read context t)
  read-holds s t h =
      subst (λ (r : Storage). f.Holds (read other r) (read context t)) (sym h.same) (by t h.own h.holds h.placed)
    where
      by : (t : Storage) (b : Code) → f.Holds b (base t) → IsNamePlaced f.tests t →
          f.Holds (read other (with_base b t)) (read context t)
      by (InVariable i k) b q n = here (Push i) refl
      by (InField i k name c) b q n = joined f q (f.single name (Get i) n refl)
      by (Elsewhere m c) b q n = joined f q (here (Outside m) refl)

  combined-holds : (s t : Storage) → Stored f s t → {d e : Code} → f.Holds d e →
      f.Holds (combined other s d) (combined context t e)
  combined-holds s t h {d} {e} p =
      subst (λ (r : Storage). f.Holds (combined other r d) (combined context t e)) (sym h.same)
      (by t h.own h.holds h.placed)
    where
      by : (t : Storage) (b : Code) → f.Holds b (base t) → IsNamePlaced f.tests t →
          f.Holds (combined other (with_base b t) d) (combined context t e)
      by (InVariable i k) b q n =
          joined_3 f (joined_3 f (here (Push i) refl) p (here (Prim 2) refl))
          (conv k k (Of types.Plain) (Of types.Plain)) (here (Set i) refl)
      by (InField i k name c) b q n =
          joined_3 f
          (joined_3 f (joined_3 f q (here Dup refl) (f.single name (Get i) n refl)) p (here (Prim 2) refl))
          (conv k k (Of types.Plain) (Of types.Plain)) (f.single name (Put i) n refl)
      by (Elsewhere m c) b q n = joined_3 f q p (here (Outside (suc m)) refl)

  counted-holds : (s t : Storage) → Stored f s t → f.Holds (counted other s) (counted context t)
  counted-holds s t h =
      subst (λ (r : Storage). f.Holds (counted other r) (counted context t)) (sym h.same)
      (by t h.own h.holds h.placed)
    where
      by : (t : Storage) (b : Code) → f.Holds b (base t) → IsNamePlaced f.tests t →
          f.Holds (counted other (with_base b t)) (counted context t)
      by (InVariable i k) b q n =
          joined_4 f (here (Push i) refl) (here (Prim 1) refl) (conv k k (Of types.Plain) (Of types.Plain))
          (here (Set i) refl)
      by (InField i k name c) b q n =
          joined_4 f (joined_3 f q (here Dup refl) (f.single name (Get i) n refl)) (here (Prim 1) refl)
          (conv k k (Of types.Plain) (Of types.Plain)) (f.single name (Put i) n refl)
      by (Elsewhere m c) b q n = joined f q (here (Outside m) refl)

  -- ---- what is stored where

  none-stored : Stored f (Elsewhere 0 []) (Elsewhere 0 [])
  none-stored = record { own = []; same = refl; holds = f.nothing; placed = tt }

  one-stored : {d e : Code} → f.Holds d e → Stored f (Elsewhere 1 d) (Elsewhere 1 e)
  one-stored {d} p = record { own = d; same = refl; holds = p; placed = tt }

  field-stored : (a b c d : Code) → f.Holds a c → f.Holds b d → (x : Ident) → IsPlace x.place → (i : FieldId)
      (o : Option FieldInfo) → Stored f (in_field a b x i o) (in_field c d x i o)
  field-stored a b c d p q x h i None = none-stored
  field-stored a b c d p q x h i (Some info) =
      record { own = cond info.is_static a b; same = refl; holds = by_test f info.is_static p q; placed = h }

  pub named-stored : (x : Ident) → IsPlace x.place → Stored f (of_name other x) (of_name context x)
  named-stored x h =
      subst (λ (s : Storage). Stored f s (of_name context x)) (sym (named-same statuses context x))
      (by (meaning_of context x))
    where
      by : (m : Meaning) → Stored f (of_meaning context x m) (of_meaning context x m)
      by (means.Variable v k) = record { own = []; same = refl; holds = f.nothing; placed = tt }
      by (means.Field i) =
          field-stored (push_own_class context) (push_this context) (push_own_class context) (push_this context)
          class-pushed this-pushed x h i (field_at context i)
      by (means.Class c) = none-stored
      by means.Opaque = none-stored

  -- the class of a field
  known-class : (c : ClassId) (in_static : Bool) (name : List ℕ) (i : FieldId) →
      field_named context.folder.fields c in_static name ≡ Some i → f.tests.is_class c ≡ true
  known-class c in_static name i e =
      let h = field-there context.folder.fields c in_static name i e in
      subst (λ (d : ClassId). f.tests.is_class d ≡ true) h.class_is (g.known.fields i h.info h.there)

  class-stored : (c : ClassId) (x : Ident) → IsPlace x.place → (o : Option FieldId) →
      field_named context.folder.fields c true x.text ≡ o → Stored f (of_class context c x o) (of_class context c x o)
  class-stored c x h None e = none-stored
  class-stored c x h (Some i) e =
      let pushed = here (PushClass c) (known-class c true x.text i e) in
      field-stored (op context (PushClass c)) (op context (PushClass c)) (op context (PushClass c))
      (op context (PushClass c)) pushed pushed x h i (field_at context i)

  object-stored : (c : ClassId) (d e : Code) → f.Holds d e → (x : Ident) → IsPlace x.place → (o : Option FieldId) →
      field_named context.folder.fields c false x.text ≡ o →
      Stored f (of_object context c d x o) (of_object context c e x o)
  object-stored c d e p x h None there = one-stored p
  object-stored c d e p x h (Some i) there =
      field-stored (d ++ op context Drop ++ op context (PushClass c)) d
      (e ++ op context Drop ++ op context (PushClass c)) e
      (joined_3 f p (here Drop refl) (here (PushClass c) (known-class c false x.text i there))) p x h i
      (field_at context i)

  selected-stored : (o : Option ClassId) (v : ValueKind) (d e : Code) → f.Holds d e → (x : Ident) → IsPlace x.place →
      Stored f (selected context o v d x) (selected context o v e x)
  selected-stored (Some c) v d e p x h = class-stored c x h (field_named context.folder.fields c true x.text) refl
  selected-stored None value.Null d e p x h = one-stored p
  selected-stored None (Of types.Plain) d e p x h = one-stored p
  selected-stored None (Of (types.Declared c)) d e p x h =
      object-stored c d e p x h (field_named context.folder.fields c false x.text) refl
  selected-stored None (Of types.Other) d e p x h = one-stored p

  -- ---- what is called

  method-there : (m : MethodId) (o : Option MethodInfo) → info_at context m ≡ o → IsThere f.tests (callee_of m o)
  method-there m None e = tt
  method-there m (Some info) e = by info.is_static (g.known.methods m info e)
    where
      by : (b : Bool) → f.tests.is_method m ≡ true → IsThere f.tests (cond b (OfClass m) (OfObject m))
      by true h = h
      by false h = h

  found-there : (o : Option MethodId) → IsThere f.tests (callee_found context o)
  found-there None = tt
  found-there (Some m) = method-there m (info_at context m) refl

  in-there : (c : ClassId) (name : List ℕ) (count : ℕ) → IsThere f.tests (callee_in context c name count)
  in-there c name count = found-there (found context.folder.methods c name count)

  static-there : (callee : Callee) → IsThere f.tests callee → IsThere f.tests (if_static callee)
  static-there Missing h = tt
  static-there (OfClass m) h = h
  static-there (OfObject m) h = tt

  own-there : (x : Ident) (count : ℕ) → IsThere f.tests (own_callee context x count)
  own-there x count = by context.scope.is_static (in-there context.scope.class x.text count)
    where
      by : (b : Bool) → IsThere f.tests (callee_in context context.scope.class x.text count) →
          IsThere f.tests (cond b (if_static (callee_in context context.scope.class x.text count))
          (callee_in context context.scope.class x.text count))
      by true h = static-there (callee_in context context.scope.class x.text count) h
      by false h = h

  on-there : (o : Option ClassId) (v : ValueKind) (x : Ident) (count : ℕ) →
      IsThere f.tests (callee_on context o v x count)
  on-there (Some c) v x count = static-there (callee_in context c x.text count) (in-there c x.text count)
  on-there None value.Null x count = tt
  on-there None (Of types.Plain) x count = tt
  on-there None (Of (types.Declared c)) x count = in-there c x.text count
  on-there None (Of types.Other) x count = tt

  -- with so many values, of which some may be made one first, or with so many others
  abbrev either_called : Place → MethodId → (one_by_one : Bool) → (given taken left : ℕ) → (is_read : Bool) → Code
  either_called place m q i j n b =
      cond b (cond q [] (op context (Outside n)) ++ op_at place (CallOp m j)) (op_at place (Unread m i))

  made-one : (q : Bool) (n : ℕ) → f.Holds (cond q [] (op context (Outside n))) (cond q [] (op context (Outside n)))
  made-one q n = by_test f q f.nothing (here (Outside n) refl)

  made-added : (q : Bool) (n : ℕ) → f.Holds (cond q [] (op context (Outside n))) []
  made-added true n = f.nothing
  made-added false n = f.added context.place (Outside n) g.here refl refl

  made-missing : (q : Bool) (n : ℕ) → f.Holds [] (cond q [] (op context (Outside n)))
  made-missing true n = f.nothing
  made-missing false n = f.missing context.place (Outside n) g.here refl refl

  either-called : (place : Place) (m : MethodId) (q : Bool) (i j n : ℕ) → IsPlace place → f.tests.is_method m ≡ true →
      (a b : Bool) → f.Holds (either_called place m q i j n a) (either_called place m q i j n b)
  either-called place m q i j n h k true true = joined f (made-one q n) (f.called place m j j true true h k)
  either-called place m q i j n h k true false =
      f.followed (cond q [] (op context (Outside n))) (op_at place (CallOp m j)) [] (op_at place (Unread m i))
      (made-added q n) (f.called place m j i true false h k)
  either-called place m q i j n h k false true =
      f.followed [] (op_at place (Unread m i)) (cond q [] (op context (Outside n))) (op_at place (CallOp m j))
      (made-missing q n) (f.called place m i j false true h k)
  either-called place m q i j n h k false false = f.called place m i i false false h k

  call-holds : (place : Place) (m : MethodId) (has_object : Bool) (n : ℕ) → IsPlace place →
      f.tests.is_method m ≡ true → f.Holds (call_at other place m has_object n) (call_at context place m has_object n)
  call-holds place m has_object n h k =
      let parameters = length (parameters_of (info_at context m)) in
      either-called place m (n == parameters) (with_object has_object n) (with_object has_object parameters)
      (n - (parameters - 1)) h k (is_analysed other m) (is_analysed context m)

  -- arguments, to whatever they are converted
  abbrev ArgumentsHold : Passing → Passing → Type 0
  ArgumentsHold a b = (j k : List Kind) → f.Holds (a j) (b k)

  called-holds : (place : Place) (n : ℕ) (a b : Passing) (callee : Callee) → IsPlace place → ArgumentsHold a b →
      IsThere f.tests callee → f.Holds (called other place n a callee) (called context place n b callee)
  called-holds place n a b Missing h all k = joined f (all [] []) (here (Outside n) refl)
  called-holds place n a b (OfClass m) h all k =
      joined f (all (parameter_kinds other m n) (parameter_kinds context m n)) (call-holds place m false n h k)
  called-holds place n a b (OfObject m) h all k =
      joined_3 f this-pushed (all (parameter_kinds other m n) (parameter_kinds context m n))
      (call-holds place m true n h k)

  on_value-holds : (place : Place) (d e : Code) (n : ℕ) (a b : Passing) (callee : Callee) → IsPlace place →
      f.Holds d e → ArgumentsHold a b → IsThere f.tests callee →
      f.Holds (called_on_value other place d n a callee) (called_on_value context place e n b callee)
  on_value-holds place d e n a b Missing h p all k = joined_3 f p (all [] []) (here (Outside (suc n)) refl)
  on_value-holds place d e n a b (OfClass m) h p all k =
      joined_4 f p (here Drop refl) (all (parameter_kinds other m n) (parameter_kinds context m n))
      (call-holds place m false n h k)
  on_value-holds place d e n a b (OfObject m) h p all k =
      joined_3 f p (all (parameter_kinds other m n) (parameter_kinds context m n)) (call-holds place m true n h k)

  called_on-holds : (place : Place) (o : Option ClassId) (d e : Code) (n : ℕ) (a b : Passing) (callee : Callee) →
      IsPlace place → f.Holds d e → ArgumentsHold a b → IsThere f.tests callee →
      f.Holds (called_on other place o d n a callee) (called_on context place o e n b callee)
  called_on-holds place (Some c) d e n a b callee h p all k = called-holds place n a b callee h all k
  called_on-holds place None d e n a b callee h p all k = on_value-holds place d e n a b callee h p all k

  constructor-by : (m n : MethodId) (o : Option MethodInfo) → info_at context m ≡ o → constructor_of m o ≡ Some n →
      f.tests.is_method n ≡ true
  constructor-by m n None e h = absurd (none-some _ h)
  constructor-by m n (Some info) e h = by info.is_constructor h
    where
      by : (b : Bool) → cond b (Some m) None ≡ Some n → f.tests.is_method n ≡ true
      by true k = subst (λ (i : MethodId). f.tests.is_method i ≡ true) (same_Some _ _ k) (g.known.methods m info e)
      by false k = absurd (none-some _ k)

  constructor-there : (o : Option MethodId) (n : MethodId) → constructor_among context o ≡ Some n →
      f.tests.is_method n ≡ true
  constructor-there None n h = absurd (none-some _ h)
  constructor-there (Some m) n h = constructor-by m n (info_at context m) refl h

  made_by-holds : (place : Place) (c : ClassId) (n : ℕ) (a b : Passing) (o : Option MethodId) →
      constructor_in context c n ≡ o → IsPlace place → f.tests.is_class c ≡ true → ArgumentsHold a b →
      f.Holds (made_by other place c n a o) (made_by context place c n b o)
  made_by-holds place c n a b None e h k all = joined f (all [] []) (f.single place (Outside n) h refl)
  made_by-holds place c n a b (Some m) e h k all =
      joined_3 f (f.single place (NewOp c) h k) (all (parameter_kinds other m n) (parameter_kinds context m n))
      (call-holds place m true n h (constructor-there (found context.folder.methods c constructor_name n) m e))

  made-holds : (place : Place) (k : Kind) (n : ℕ) (a b : Passing) → IsPlace place → f.tests.is_kind k ≡ true →
      ArgumentsHold a b → f.Holds (made other place k n a) (made context place k n b)
  made-holds place types.Plain n a b h k all = joined f (all [] []) (f.single place (Outside n) h refl)
  made-holds place (types.Declared c) n a b h k all =
      made_by-holds place c n a b (constructor_in context c n) refl h (f.tests.of_kind c k) all
  made-holds place types.Other n a b h k all = joined f (all [] []) (f.single place (Outside n) h refl)

  -- ---- expressions

  object-of_class : (o : Option ClassId) → ((c : ClassId) → o ≡ Some c → f.tests.is_class c ≡ true) →
      f.Holds (class_object other o) (class_object context o)
  object-of_class None h = here (Outside 0) refl
  object-of_class (Some c) h = here (PushClass c) (h c refl)

  written-there : (xs : List Ident) (c : ClassId) → class_written context xs ≡ Some c → f.tests.is_class c ≡ true
  written-there [] c e = absurd (none-some _ e)
  written-there (x ∷ []) c e = g.known.named context.scope.hidden x.text c e
  written-there (x ∷ y ∷ xs) c e = absurd (none-some _ e)

  cast-holds : (k : Kind) → f.Holds (cast other k) (cast context k)
  cast-holds types.Plain = here (Prim 1) refl
  cast-holds (types.Declared c) = here (Outside 1) refl
  cast-holds types.Other = here (Outside 1) refl

  this-holds : f.Holds (this_object other) (this_object context)
  this-holds = by_test f context.scope.is_static (here (Outside 0) refl) this-pushed

  referred-holds : (b : Bool) {d e : Code} → f.Holds d e → f.Holds (referred other b d) (referred context b e)
  referred-holds true p = joined f p (here (Outside 1) refl)
  referred-holds false p = here (Outside 0) refl

  -- a call that touches no container
  call_on-holds : (e : Expr) (x : Ident) (es : Exprs) → IsPlace x.place → f.Holds (code other e) (code context e) →
      ArgumentsHold (λ ks. passed other ks es) (λ ks. passed context ks es) →
      f.Holds
      (called_on other x.place (class_before other e) (code other e) (count_exprs es) (λ ks. passed other ks es)
      (callee_on other (class_before other e) (kind other e) x (count_exprs es)))
      (called_on context x.place (class_before context e) (code context e) (count_exprs es)
      (λ ks. passed context ks es) (callee_on context (class_before context e) (kind context e) x (count_exprs es)))
  call_on-holds e x es h p all =
      let n = count_exprs es in
      let c = class_before context e in
      let callee = callee_on context c (kind context e) x n in
      let known = called_on context x.place c (code context e) n (λ ks. passed context ks es) callee in
      subst (λ (o : Option ClassId).
      f.Holds (called_on other x.place o (code other e) n (λ ks. passed other ks es)
      (callee_on other (class_before other e) (kind other e) x n)) known)
      (sym (class_before-same statuses context e))
      (subst (λ (r : Callee).
      f.Holds (called_on other x.place c (code other e) n (λ ks. passed other ks es) r) known)
      (sym (callee-same statuses context (class_before other e) c (kind other e) (kind context e) x n
      (class_before-same statuses context e) (kind-same statuses context e)))
      (called_on-holds x.place c (code other e) (code context e) n (λ ks. passed other ks es)
      (λ ks. passed context ks es) callee h p all (on-there c (kind context e) x n)))

  mutual
    pub code-holds : (e : Expr) → PlacedExpr f.tests.is_place e → f.Holds (code other e) (code context e)
    code-holds tree.Prim h = here PushPrim refl
    code-holds Unknown h = here (Outside 0) refl
    code-holds tree.Null h = here PushNull refl
    code-holds This h = this-holds
    code-holds (ClassOf xs) h = object-of_class (class_written context xs) (written-there xs)
    code-holds (ThisOf xs) h =
        by_test f (is_own_class context (class_written context xs)) this-holds (here (Outside 0) refl)
    code-holds (Refer ToType) h = here (Outside 0) refl
    code-holds (Refer (ToExpr e)) h =
        subst (λ (b : Bool). f.Holds (referred other b (code other e)) (code context (Refer (ToExpr e))))
        (sym (is_evaluated-same statuses context e)) (referred-holds (is_evaluated context e) (code-holds e h))
    code-holds (Read a) h = read-holds (storage other a) (storage context a) (storage-holds a h)
    code-holds (Unary e) h = joined f (code-holds e h) (here (Prim 1) refl)
    code-holds (Cast t e) h = joined f (code-holds e h) (cast-holds (type_kind context t))
    code-holds (Binary a b) h = joined_3 f (code-holds a h.0) (code-holds b h.1) (here (Prim 2) refl)
    code-holds (Logical a b) h =
        joined_3 f (code-holds a h.0) (here (Prim 1) refl)
        (either f (joined f (code-holds b h.1) (here (Prim 2) refl)) f.nothing)
    code-holds (Conditional c a b) h =
        joined_3 f (code-holds c h.0) (here Drop refl) (either f (code-holds a h.1) (code-holds b h.2))
    code-holds (Assign a e) h =
        assigned-holds (storage other a) (storage context a) (storage-holds a h.0) (kind other e) (kind context e)
        (code-holds e h.1)
    code-holds (Combine a e) h =
        combined-holds (storage other a) (storage context a) (storage-holds a h.0) (code-holds e h.1)
    code-holds (Count a) h = counted-holds (storage other a) (storage context a) (storage-holds a h)
    code-holds (Call x es) h =
        called-holds x.place (count_exprs es) (λ ks. passed other ks es) (λ ks. passed context ks es)
        (own_callee context x (count_exprs es)) h.0 (passed-holds es h.1) (own-there x (count_exprs es))
    code-holds (CallOn e x es) h =
        touched-holds f statuses context g (stored other e) (stored context e) (stored-holds e h.0) x (count_exprs es) h.1
        (passed-holds es h.2 [] []) (call_on-holds e x es h.1 (code-holds e h.0) (passed-holds es h.2))
    code-holds (New place t es) h =
        made-holds place (type_kind context t) (count_exprs es) (λ ks. passed other ks es)
        (λ ks. passed context ks es) h.0 (g.known.types context.scope.hidden t) (passed-holds es h.1)
    code-holds (NewBody place t es) h =
        joined f (passed-holds es h.1 [] []) (f.single place (Outside (count_exprs es)) h.0 refl)
    code-holds (NewArray place lengths) h =
        joined f (passed-holds lengths h.1 [] []) (f.single place (Outside (count_exprs lengths)) h.0 refl)
    code-holds (NewItems place items) h =
        joined f (items-hold items h.1) (f.single place (Outside (count_inits items)) h.0 refl)
    code-holds (Paren e) h = code-holds e h

    pub stored-holds : (e : Expr) → PlacedExpr f.tests.is_place e → Stored f (stored other e) (stored context e)
    stored-holds (Read a) h = storage-holds a h
    stored-holds _ h = none-stored

    storage-holds : (a : Access) → PlacedAccess f.tests.is_place a → Stored f (storage other a) (storage context a)
    storage-holds (Named x) h = named-stored x h
    storage-holds (Selected e x) h =
        subst (λ (s : Storage). Stored f s (storage context (Selected e x)))
        (sym (selected-same statuses context (class_before other e) (class_before context e) (kind other e)
        (kind context e) (code other e) x (class_before-same statuses context e) (kind-same statuses context e)))
        (selected-stored (class_before context e) (kind context e) (code other e) (code context e) (code-holds e h.0) x
        h.1)
    storage-holds (Element a i) h =
        record {
          own = code other a ++ code other i;
          same = refl;
          holds = joined f (code-holds a h.0) (code-holds i h.1);
          placed = tt;
        }
    storage-holds NoAccess h = none-stored

    passed-holds : (es : Exprs) → PlacedExprs f.tests.is_place es → (j k : List Kind) →
        f.Holds (passed other j es) (passed context k es)
    passed-holds no_expr h j k = f.nothing
    passed-holds (expr_then e es) h [] [] = joined f (code-holds e h.0) (passed-holds es h.1 [] [])
    passed-holds (expr_then e es) h [] (k ∷ ks) =
        joined f (longer f (code-holds e h.0) (conv types.Plain k (kind other e) (kind context e)))
        (passed-holds es h.1 [] ks)
    passed-holds (expr_then e es) h (j ∷ js) [] =
        joined f (shorter f (code-holds e h.0) (conv j types.Plain (kind other e) (kind context e)))
        (passed-holds es h.1 js [])
    passed-holds (expr_then e es) h (j ∷ js) (k ∷ ks) =
        joined_3 f (code-holds e h.0) (conv j k (kind other e) (kind context e)) (passed-holds es h.1 js ks)

    pub init-holds : (i : Init) → PlacedInit f.tests.is_place i → f.Holds (init_code other i) (init_code context i)
    init-holds (Value e) h = code-holds e h
    init-holds (Items items) h = joined f (items-hold items h) (here (Outside (count_inits items)) refl)

    items-hold : (items : Inits) → PlacedInits f.tests.is_place items →
        f.Holds (items_code other items) (items_code context items)
    items-hold no_init h = f.nothing
    items-hold (init_then i is) h = joined f (init-holds i h.0) (items-hold is h.1)
