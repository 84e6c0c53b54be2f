-- The base of a read and of a write is a value that fits the base of the field; where that is a start object, the field
-- is a cell of what it leads to.
use Rattle.std.proofs.Common.{◌≡◌, true, false, cond, ◌&&◌, not, List, [], ◌∷◌, Option, None, Some}
use Rattle.std.proofs.Common.{slice_index_or, refl, sym, ap, subst}
use Rattle.std.proofs.lemmas.Bool.{and_from, eq-eqb, eqb-true, and_parts}
use Rattle.racer_base.specs.declared.ids.FieldId.{FieldId}
use Rattle.core_code.specs.declared.parts.FieldCore.{FieldCore}
use Rattle.core_code.specs.Core.{Core}
use Rattle.core_code.specs.KindCheck.{after_get, after_put, field_at, is_base_of}
use Rattle.core_code.specs.Kinds.{StackKind, fits, fits_class, kind_of, same_class, same_kind}
use Rattle.core_code.proofs.KindLemmas.{class_same, equal_kinds, where-is, IsWhere}
use Rattle.core_code.specs.Kinds as kinds
use Rattle.core_semantics.specs.declared.object.Value.{Value}
use Rattle.core_semantics.specs.declared.object.Value.TheVariants.{Null}
use Rattle.core_semantics_kinds.specs.ObjectKinds.{AreValues, IsReached, IsValue}
use Rattle.core_semantics_kinds.specs.Reached.{ObjectOf, Reached, Roots, TheClass, has_cell}
use Rattle.core_semantics_kinds.proofs.PlaceValues.{stand-slot, stand-top}

-- ---- what a start object leads to

pub record HasCell (field : FieldCore) (r : Option Reached) : Type 0 where
  pub reached : Reached
  pub is : r ≡ Some reached
  pub cell : has_cell field reached ≡ true

static-base : (field : FieldCore) (base : StackKind) (r : Option Reached) → field.is_static ≡ true →
    same_kind (kinds.Class field.class) base ≡ true → IsReached base r → HasCell field r
static-base field base r static e reached =
    let same : kinds.Class field.class ≡ base = equal_kinds (kinds.Class field.class) base e in
    record {
      reached = TheClass field.class;
      is = subst (λ (a : StackKind). IsReached a r) (sym same) reached;
      cell = and_from (same_class field.class field.class) field.is_static (class_same field.class) static;
    }

instance-base : (field : FieldCore) (base : StackKind) (r : Option Reached) → field.is_static ≡ false →
    fits_class field.class base ≡ true → IsReached base r → HasCell field r
instance-base field (kinds.Declared d) r instance e reached =
    let number : d.0 ≡ field.class.0 = sym (eqb-true field.class.0 d.0 e) in
    record {
      reached = ObjectOf d;
      is = reached;
      cell =
          and_from (same_class d field.class) (not field.is_static) (eq-eqb d.0 field.class.0 number) (ap not instance);
    }
instance-base field kinds.Plain r instance e reached = absurd cc
instance-base field (kinds.Class d) r instance e reached = absurd cc
instance-base field kinds.Null r instance e reached = absurd reached
instance-base field kinds.Opaque r instance e reached = absurd reached
instance-base field kinds.Other r instance e reached = absurd cc

pub reached-cell : (field : FieldCore) (base : StackKind) (r : Option Reached) → is_base_of field base ≡ true →
    IsReached base r → HasCell field r
reached-cell field base r e reached =
    (elim field.is_static as (λ b. field.is_static ≡ b →
    cond b (same_kind (kinds.Class field.class) base) (fits_class field.class base) ≡ true → HasCell field r) [
      | true ↦ λ s t. static-base field base r s t reached
      | false ↦ λ s t. instance-base field base r s t reached
    ]) refl e

-- ---- what stands on the stack

pub record HasBase (core : Core) (roots : Roots) (f : FieldId) (v : Value) : Type 0 where
  pub field : FieldCore
  pub base : StackKind
  pub there : field_at core f ≡ Some field
  pub is : is_base_of field base ≡ true
  pub value : IsValue core roots base v

module _ (core : Core) (roots : Roots) where
  pub get-base : (f : FieldId) (o : Option FieldCore) (ks after : List StackKind) (xs : List Value) →
      field_at core f ≡ o → after_get o ks ≡ Some after → AreValues core roots ks xs →
      HasBase core roots f (slice_index_or xs 0 Null)
  get-base f None ks after xs there e h = absurd cc
  get-base f (Some field) [] after xs there e h = absurd cc
  get-base f (Some field) (base ∷ ks) after xs there e h =
      let w : IsWhere (is_base_of field base) (kind_of field.kind ∷ ks) after =
      where-is (is_base_of field base) (kind_of field.kind ∷ ks) after e in
      record {
        field = field;
        base = base;
        there = there;
        is = w.holds;
        value = stand-top (IsValue core roots) base ks xs h;
      }

  pub put-base : (f : FieldId) (o : Option FieldCore) (ks after : List StackKind) (xs : List Value) →
      field_at core f ≡ o → after_put o ks ≡ Some after → AreValues core roots ks xs →
      HasBase core roots f (slice_index_or xs 1 Null)
  put-base f None ks after xs there e h = absurd cc
  put-base f (Some field) [] after xs there e h = absurd cc
  put-base f (Some field) (k ∷ []) after xs there e h = absurd cc
  put-base f (Some field) (k ∷ base ∷ ks) after xs there e h =
      let w : IsWhere (is_base_of field base && fits field.kind k) (k ∷ ks) after =
      where-is (is_base_of field base && fits field.kind k) (k ∷ ks) after e in
      record {
        field = field;
        base = base;
        there = there;
        is = (and_parts (is_base_of field base) (fits field.kind k) w.holds).0;
        value = stand-slot (IsValue core roots) 1 (k ∷ base ∷ ks) xs base refl h;
      }
