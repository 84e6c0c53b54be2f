-- Names, kinds and what is called do not depend on which methods are analysed.
use Rattle.std.proofs.Common.{◌≡◌, ℕ, true, false, List, [], Option, None, Some, refl, ap, ◌∙◌}
use Rattle.racer_base.specs.declared.ids.ClassId.{ClassId}
use Rattle.racer_base.specs.declared.ids.FieldId.{FieldId}
use Rattle.racer_base.specs.declared.ids.Kind.TheVariants.{Plain, Declared, Other}
use Rattle.java_tree.specs.declared.words.Ident.{Ident}
use Rattle.java_resolver.specs.declared.scope.Meaning.{Meaning}
use Rattle.java_resolver.specs.declared.scope.Meaning.TheVariants as means
use Rattle.java_resolver.specs.Meanings.{field_named}
use Rattle.core_code.specs.declared.code.Reason.{Reason}
use Rattle.core_lowering_rules.specs.Trees.{Expr, Unknown, This, ClassOf, Read, Unary, Cast, Logical, Binary}
use Rattle.core_lowering_rules.specs.Trees as tree
use Rattle.core_lowering_rules.specs.Trees.{Conditional, Assign, Combine, Count, Paren, CallOn, NewBody}
use Rattle.core_lowering_rules.specs.Trees.{NewArray, NewItems, ThisOf, Refer}
use Rattle.core_lowering_rules.specs.Trees.{Access, Named, Selected, Element, NoAccess, count_exprs}
use Rattle.core_lowering_rules.specs.ValueKinds.{ValueKind, Of, Null, common_kind}
use Rattle.core_lowering_rules.specs.Context.{Context, Code, meaning_of}
use Rattle.core_lowering_rules.specs.Assignments.{kind_in, of_meaning, of_name, of_class, of_object, of_value, selected}
use Rattle.core_lowering_rules.specs.Calls.{Callee, Missing, OfClass, OfObject, result_kind, callee_on, own_callee}
use Rattle.core_lowering_rules.specs.Expressions.{class_before, is_evaluated, kind, access_kind}

-- the same with other statuses
abbrev pub with_statuses : List (Option Reason) → Context → Context
with_statuses statuses context = record context { folder = record context.folder { statuses = statuses } }

module _ (statuses : List (Option Reason)) (context : Context) where
  abbrev other : Context
  other = with_statuses statuses context

  meaning-same : (x : Ident) (m : Meaning) → of_meaning other x m ≡ of_meaning context x m
  meaning-same x (means.Variable v k) = refl
  meaning-same x (means.Field f) = refl
  meaning-same x (means.Class c) = refl
  meaning-same x means.Opaque = refl

  pub named-same : (x : Ident) → of_name other x ≡ of_name context x
  named-same x = meaning-same x (meaning_of context x)

  of_class-same : (c : ClassId) (x : Ident) (f : Option FieldId) → of_class other c x f ≡ of_class context c x f
  of_class-same c x None = refl
  of_class-same c x (Some f) = refl

  of_object-same : (c : ClassId) (e : Code) (x : Ident) (f : Option FieldId) →
      of_object other c e x f ≡ of_object context c e x f
  of_object-same c e x None = refl
  of_object-same c e x (Some f) = refl

  of_value-same : (k : ValueKind) (e : Code) (x : Ident) → of_value other k e x ≡ of_value context k e x
  of_value-same (Of (Declared c)) e x = of_object-same c e x (field_named context.folder.fields c false x.text)
  of_value-same (Of Plain) e x = refl
  of_value-same (Of Other) e x = refl
  of_value-same Null e x = refl

  pub selected-same : (c d : Option ClassId) (k l : ValueKind) (e : Code) (x : Ident) → c ≡ d → k ≡ l →
      selected other c k e x ≡ selected context d l e x
  selected-same c d k l e x p q =
      by_class c ∙ ap (λ (o : Option ClassId). selected context o k e x) p
      ∙ ap (λ (v : ValueKind). selected context d v e x) q
    where
      by_class : (o : Option ClassId) → selected other o k e x ≡ selected context o k e x
      by_class (Some i) = of_class-same i x (field_named context.folder.fields i true x.text)
      by_class None = of_value-same k e x

  result-same : (callee : Callee) → result_kind other callee ≡ result_kind context callee
  result-same Missing = refl
  result-same (OfClass m) = refl
  result-same (OfObject m) = refl

  pub callee-same : (c d : Option ClassId) (k l : ValueKind) (x : Ident) (n : ℕ) → c ≡ d → k ≡ l →
      callee_on other c k x n ≡ callee_on context d l x n
  callee-same c d k l x n p q =
      by_kind c k ∙ ap (λ (o : Option ClassId). callee_on context o k x n) p
      ∙ ap (λ (v : ValueKind). callee_on context d v x n) q
    where
      by_kind : (o : Option ClassId) (v : ValueKind) → callee_on other o v x n ≡ callee_on context o v x n
      by_kind (Some i) v = refl
      by_kind None (Of (Declared i)) = refl
      by_kind None (Of Plain) = refl
      by_kind None (Of Other) = refl
      by_kind None Null = refl

  pub class_before-same : (e : Expr) → class_before other e ≡ class_before context e
  class_before-same (Read (Named x)) = refl
  class_before-same _ = refl

  pub is_evaluated-same : (e : Expr) → is_evaluated other e ≡ is_evaluated context e
  is_evaluated-same (Read (Named x)) = refl
  is_evaluated-same _ = refl

  mutual
    pub kind-same : (e : Expr) → kind other e ≡ kind context e
    kind-same tree.Prim = refl
    kind-same Unknown = refl
    kind-same tree.Null = refl
    kind-same This = refl
    kind-same (ClassOf xs) = refl
    kind-same (ThisOf xs) = refl
    kind-same (Refer to) = refl
    kind-same (Read a) = access_kind-same a
    kind-same (Unary e) = refl
    kind-same (Cast t e) = refl
    kind-same (Binary a b) = refl
    kind-same (Logical a b) = refl
    kind-same (Conditional c a b) =
        ap (λ (k : ValueKind). common_kind k (kind other b)) (kind-same a)
        ∙ ap (λ (k : ValueKind). common_kind (kind context a) k) (kind-same b)
    kind-same (Assign a e) = access_kind-same a
    kind-same (Combine a e) = access_kind-same a
    kind-same (Count a) = refl
    kind-same (tree.Call x es) = result-same (own_callee context x (count_exprs es))
    kind-same (CallOn e x es) =
        let callee = callee_on other (class_before other e) (kind other e) x (count_exprs es) in
        result-same callee
        ∙ ap (result_kind context)
        (callee-same (class_before other e) (class_before context e) (kind other e) (kind context e) x (count_exprs es)
        (class_before-same e) (kind-same e))
    kind-same (tree.New place t es) = refl
    kind-same (NewBody place t es) = refl
    kind-same (NewArray place lengths) = refl
    kind-same (NewItems place items) = refl
    kind-same (Paren e) = kind-same e

    access_kind-same : (a : Access) → access_kind other a ≡ access_kind context a
    access_kind-same (Named x) = ap kind_in (named-same x)
    access_kind-same (Selected e x) =
        ap kind_in
        (selected-same (class_before other e) (class_before context e) (kind other e) (kind context e) [] x
        (class_before-same e) (kind-same e))
    access_kind-same (Element a i) = refl
    access_kind-same NoAccess = refl
