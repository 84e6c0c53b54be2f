-- What the kind check tells of kinds and of heights of the stack.
use Rattle.std.proofs.Common.{◌≡◌, Bool, true, false, cond, List, [], ◌∷◌, Some}
use Rattle.std.proofs.Common.{refl, sym, ap, ◌∙◌}
use Rattle.racer_base.specs.declared.ids.ClassId.{ClassId}
use Rattle.racer_base.specs.declared.ids.Kind.{Kind}
use Rattle.racer_base.specs.declared.ids.Kind.TheVariants as types
use Rattle.core_code.specs.declared.parts.FieldCore.{FieldCore}
use Rattle.core_code.specs.Tree.{LockAt, Tree, Seq, Choice, Loop, Sync}
use Rattle.core_code.specs.Core.{Core, Method}
use Rattle.core_code.specs.Kinds.{StackKind, Plain, Declared, Class, Null, Opaque, Other, kind_of, same_kind}
use Rattle.core_code.specs.Kinds.{joined_kind, joined_stack, fits_class, fits}
use Rattle.core_code.specs.KindCheck.{and_then, where_true, is_base_of, kinds_after, same_stack}
use Rattle.core_code.proofs.KindLemmas.{equal_stacks, went_on}
use Rattle.core_ways_laws.specs.Places.{is_strong}

-- ---- kinds

-- where a joined kind is strong, both of its sides are
pub strong_left : (a b : StackKind) → is_strong (joined_kind a b) ≡ true → is_strong a ≡ true
strong_left (Declared c) b h = refl
strong_left (Class c) b h = refl
strong_left Null b h = refl
strong_left Opaque b h = refl
strong_left Plain Plain h = h
strong_left Plain (Declared c) h = h
strong_left Plain (Class c) h = h
strong_left Plain Null h = h
strong_left Plain Opaque h = h
strong_left Plain Other h = h
strong_left Other Plain h = h
strong_left Other (Declared c) h = h
strong_left Other (Class c) h = h
strong_left Other Null h = h
strong_left Other Opaque h = h
strong_left Other Other h = h

pub strong_right : (a b : StackKind) → is_strong (joined_kind a b) ≡ true → is_strong b ≡ true
strong_right a (Declared c) h = refl
strong_right a (Class c) h = refl
strong_right a Null h = refl
strong_right a Opaque h = refl
strong_right Plain Plain h = h
strong_right (Declared c) Plain h = h
strong_right (Class c) Plain h = h
strong_right Null Plain h = h
strong_right Opaque Plain h = h
strong_right Other Plain h = h
strong_right Plain Other h = h
strong_right (Declared c) Other h = h
strong_right (Class c) Other h = h
strong_right Null Other h = h
strong_right Opaque Other h = h
strong_right Other Other h = h

-- what fits where an object of a class is wanted is strong
pub strong_class : (c : ClassId) (k : StackKind) → fits_class c k ≡ true → is_strong k ≡ true
strong_class c Plain h = h
strong_class c (Declared d) h = refl
strong_class c (Class d) h = refl
strong_class c Null h = refl
strong_class c Opaque h = refl
strong_class c Other h = h

same_strong : (c : ClassId) (k : StackKind) → same_kind (Class c) k ≡ true → is_strong k ≡ true
same_strong c Plain h = h
same_strong c (Declared d) h = refl
same_strong c (Class d) h = refl
same_strong c Null h = refl
same_strong c Opaque h = refl
same_strong c Other h = h

-- so is the base of a field
pub strong_base : (field : FieldCore) (k : StackKind) → is_base_of field k ≡ true → is_strong k ≡ true
strong_base field k h =
    elim field.is_static as (λ b. cond b (same_kind (Class field.class) k) (fits_class field.class k) ≡ true →
    is_strong k ≡ true) [
      | true ↦ λ e. same_strong field.class k e
      | false ↦ λ e. strong_class field.class k e
    ] h

-- and what is put, set, passed or returned where a class of the program stands
pub strong_fitting : (kind : Kind) (k : StackKind) → fits kind k ≡ true → is_strong (kind_of kind) ≡ true →
    is_strong k ≡ true
strong_fitting (types.Declared c) k h strong = strong_class c k h
strong_fitting types.Plain k h strong = cc
strong_fitting types.Other k h strong = cc

-- ---- parts of kinded code

pub tested : (test : Bool) (ks ends : List StackKind) → where_true test ks ≡ Some ends → (test ≡ true) × (ks ≡ ends)
tested true ks ends h = (refl, cc)
tested false ks ends h = cc

pub record AreInTurn (core : Core) (method : Method) (first rest : Tree) (ks ends : List StackKind) : Type 0 where
  pub between : List StackKind
  pub early : kinds_after core method first ks ≡ Some between
  pub late : kinds_after core method rest between ≡ Some ends

pub record AreBeside (core : Core) (method : Method) (left right : Tree) (ks ends : List StackKind) : Type 0 where
  pub after_left : List StackKind
  pub after_right : List StackKind
  pub on_left : kinds_after core method left ks ≡ Some after_left
  pub on_right : kinds_after core method right ks ≡ Some after_right
  pub joins : joined_stack after_left after_right ≡ Some ends

pub record IsWithin (core : Core) (method : Method) (body : Tree) (ks ends : List StackKind) : Type 0 where
  pub lock : StackKind
  pub below : List StackKind
  pub is : lock ∷ below ≡ ks
  pub inside : kinds_after core method body below ≡ Some ends

module _ (core : Core) (method : Method) where
  pub then_kinds : (first rest : Tree) (ks ends : List StackKind) →
      kinds_after core method (Seq first rest) ks ≡ Some ends → AreInTurn core method first rest ks ends
  then_kinds first rest ks ends h =
      let on = went_on (kinds_after core method first ks) (kinds_after core method rest) ends h in
      record { between = on.0; early = on.1; late = on.2 }

  pub either_kinds : (left right : Tree) (ks ends : List StackKind) →
      kinds_after core method (Choice left right) ks ≡ Some ends → AreBeside core method left right ks ends
  either_kinds left right ks ends h =
      let on = went_on (kinds_after core method left ks)
      (λ a. and_then (kinds_after core method right ks) (λ b. joined_stack a b)) ends h in
      let by = went_on (kinds_after core method right ks) (λ b. joined_stack on.0 b) ends on.2 in
      record { after_left = on.0; after_right = by.0; on_left = on.1; on_right = by.1; joins = by.2 }

  -- a loop keeps the kinds
  pub loop-kinds : (body : Tree) (ks ends : List StackKind) → kinds_after core method (Loop body) ks ≡ Some ends →
      (ends ≡ ks) × (kinds_after core method body ks ≡ Some ks)
  loop-kinds body ks ends h =
      let on = went_on (kinds_after core method body ks) (λ after. where_true (same_stack ks after) ks) ends h in
      let t = tested (same_stack ks on.0) ks ends on.2 in
      (sym t.1, on.1 ∙ ap Some (sym (equal_stacks ks on.0 t.0)))

  pub held_kinds : (lock : LockAt) (body : Tree) (ks ends : List StackKind) →
      kinds_after core method (Sync lock body) ks ≡ Some ends → IsWithin core method body ks ends
  held_kinds lock body [] ends h = cc
  held_kinds lock body (k ∷ below) ends h = record { lock = k; below = below; is = refl; inside = h }
