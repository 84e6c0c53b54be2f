-- What is read of a field of an object of its class.
use Rattle.std.proofs.Common.{◌≡◌, Bool, true, false, cond, Option, None, Some}
use Rattle.std.proofs.Common.{refl, sym, ap, subst, ◌∙◌}
use Rattle.std.proofs.lemmas.List.Sums.{fold_push}
use Rattle.std.specs.Option.{option_and_then}
use Rattle.racer_base.specs.declared.ids.ClassId.{ClassId}
use Rattle.racer_base.specs.declared.ids.FieldId.{FieldId}
use Rattle.racer_base.specs.declared.ids.Kind.{Kind}
use Rattle.racer_base.specs.declared.ids.Kind.TheVariants.{Plain, Declared, Other}
use Rattle.core_code.specs.declared.parts.FieldCore.{FieldCore}
use Rattle.core_code.specs.Core.{Core}
use Rattle.core_code.specs.KindCheck.{field_at, is_base_of}
use Rattle.core_code.specs.Kinds.{StackKind, kind_of}
use Rattle.core_code.specs.Kinds as kinds
use Rattle.core_semantics.specs.declared.object.Object.{Object}
use Rattle.core_semantics.specs.declared.object.Object.TheVariants.{Start, Fresh}
use Rattle.core_semantics.specs.declared.object.StartPath.{StartPath}
use Rattle.core_semantics.specs.declared.object.Value.{Value}
use Rattle.core_semantics.specs.declared.object.Value.TheVariants.{Null, Object as Ref}
use Rattle.core_semantics.specs.Objects.{lengthened}
use Rattle.core_semantics.specs.State.{Store}
use Rattle.core_semantics.specs.Steps.{kind_of as field_kind, read, unstored}
use Rattle.core_semantics.proofs.FieldKinds.{kind-there}
use Rattle.core_semantics_kinds.specs.Reached.{ObjectOf, Reached, Roots, TheClass, behind, behind_field, has_cell}
use Rattle.core_semantics_kinds.specs.Reached.{object_of}
use Rattle.core_semantics_kinds.specs.Reached.{reached_from}
use Rattle.core_semantics_kinds.specs.ObjectKinds.{AreStored, IsObjectOf, IsReached, IsValue}
use Rattle.core_semantics_kinds.proofs.Bases.{HasCell, reached-cell}

-- ---- a field that there is

module _ (core : Core) (roots : Roots) where
  -- ---- what stands behind a base

  longer : (p : StartPath) (f : FieldId) →
      reached_from core roots (lengthened p f) ≡ behind core (reached_from core roots p) f
  longer p f = fold_push (behind core) (roots p.root) p.fields f

  behind-cell : (field : FieldCore) (r : Reached) → has_cell field r ≡ true →
      behind_field field r ≡ object_of field.kind
  behind-cell field (ObjectOf c) cell = ap (λ (b : Bool). cond b (object_of field.kind) None) cell
  behind-cell field (TheClass c) cell = ap (λ (b : Bool). cond b (object_of field.kind) None) cell

  behind-base : (field : FieldCore) (f : FieldId) (base : StackKind) (r : Option Reached) →
      field_at core f ≡ Some field → is_base_of field base ≡ true → IsReached base r →
      behind core r f ≡ object_of field.kind
  behind-base field f base r there is h =
      let c : HasCell field r = reached-cell field base r is h in
      ap (λ (o : Option Reached). behind core o f) c.is
      ∙ ap (λ (o : Option FieldCore). option_and_then (λ (x : FieldCore). behind_field x c.reached) o) there
      ∙ behind-cell field c.reached c.cell

  -- ---- what is read

  admitted-value : (heap : StartPath → Bool) (c : ClassId) (p : StartPath) (f : FieldId) →
      reached_from core roots (lengthened p f) ≡ Some (ObjectOf c) → (b : Bool) →
      IsValue core roots (kinds.Declared c) (cond b (Ref (Start (lengthened p f))) Null)
  admitted-value heap c p f e true = e
  admitted-value heap c p f e false = tt

  unstored-value : (heap : StartPath → Bool) (k : Kind) (field : FieldCore) (base : StackKind) (o : Object)
      (f : FieldId) → field.kind ≡ k → field_at core f ≡ Some field → is_base_of field base ≡ true →
      IsObjectOf core roots base o →
      IsValue core roots (kind_of k) (unstored heap k o f)
  unstored-value heap Plain field base o f same there is h = tt
  unstored-value heap Other field base (Start p) f same there is h = tt
  unstored-value heap Other field base (Fresh n) f same there is h = tt
  unstored-value heap (Declared c) field base (Fresh n) f same there is h = tt
  unstored-value heap (Declared c) field base (Start p) f same there is h =
      admitted-value heap c p f
      (longer p f ∙ behind-base field f base (reached_from core roots p) there is h ∙ ap object_of same)
      (heap (lengthened p f))

  pub read-value : (store : Store) (field : FieldCore) (base : StackKind) (o : Object) (f : FieldId) →
      AreStored core roots store → field_at core f ≡ Some field → is_base_of field base ≡ true →
      IsObjectOf core roots base o → IsValue core roots (kind_of field.kind) (read core store o f)
  read-value store field base o f stored there is h =
      let kind : field_kind core f ≡ field.kind = kind-there core f field there in
      elim (store.cells o f) as (λ (x : Option Value). store.cells o f ≡ x →
      IsValue core roots (kind_of field.kind) (elim x as (λ _. Value) [
        | None ↦ unstored store.heap (field_kind core f) o f
        | Some v ↦ v
      ])) [
        | None ↦ λ e.
            subst (λ (k : Kind). IsValue core roots (kind_of field.kind) (unstored store.heap k o f)) (sym kind)
            (unstored-value store.heap field.kind field base o f refl there is h)
        | Some v ↦ λ e. subst (λ (k : Kind). IsValue core roots (kind_of k) v) kind (stored.cell o f v e)
      ] refl
