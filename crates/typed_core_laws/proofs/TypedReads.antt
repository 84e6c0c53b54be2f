-- What the base of a field is where the field's need is met, and what is read there.
use Rattle.std.proofs.Common.{◌≡◌, Bool, true, false, cond, ◌&&◌, not, Option, None, Some}
use Rattle.std.proofs.Common.{refl, sym, ap, subst, ◌∙◌}
use Rattle.std.proofs.lemmas.Bool.{and_from}
use Rattle.std.proofs.lemmas.List.Sums.{fold_push}
use Rattle.std.specs.Option.{option_and_then}
use Rattle.racer_base.specs.declared.ids.ClassId.{ClassId}
use Rattle.racer_base.specs.declared.ids.FieldId.{FieldId}
use Rattle.racer_base.specs.declared.ids.Kind.{Kind}
use Rattle.racer_base.specs.declared.ids.Kind.TheVariants.{Plain, Declared, Other}
use Rattle.core_code.specs.declared.code.Op.TheVariants.{Get}
use Rattle.core_code.specs.declared.parts.FieldCore.{FieldCore}
use Rattle.core_code.specs.Core.{Core}
use Rattle.core_code.specs.KindCheck.{field_at}
use Rattle.core_code.specs.Kinds.{same_class}
use Rattle.core_code.proofs.KindLemmas.{class_same}
use Rattle.core_semantics.specs.declared.object.Object.{Object}
use Rattle.core_semantics.specs.declared.object.Object.TheVariants.{Start, Fresh}
use Rattle.core_semantics.specs.declared.object.StartPath.{StartPath}
use Rattle.core_semantics.specs.declared.object.StartRoot.TheVariants.{Class as StartClass}
use Rattle.core_semantics.specs.declared.object.Value.{Value}
use Rattle.core_semantics.specs.declared.object.Value.TheVariants as value
use Rattle.core_semantics.specs.Objects.{lengthened, root_path}
use Rattle.core_semantics.specs.State.{Store}
use Rattle.core_semantics.specs.Steps.{kind_of as field_kind, read, unstored}
use Rattle.core_semantics.proofs.FieldKinds.{kind-there}
use Rattle.core_semantics_kinds.specs.Reached.{ObjectOf, Reached, Roots, TheClass, behind, behind_field, object_of}
use Rattle.core_semantics_kinds.specs.Reached.{reached_from as led_from}
use Rattle.typed_core.specs.declared.kinds.TypedKind.TheVariants as kind
use Rattle.typed_core.specs.Kinds.{kind_of}
use Rattle.typed_core.specs.Needs.{base_of as base_kind}
use Rattle.typed_core.specs.Typings.{is_null_at_first, is_plain, reads_field_of}
use Rattle.typed_core_laws.specs.TypedValues.{AreStored, IsOf, IsValue, class_value, is_read}

-- the field is one of this object: what lies behind a start object is of the field's kind, and of one that was made no
-- method that is reached reads a field that may hold null
abbrev pub HasField : Core → Roots → ClassId → FieldId → FieldCore → Object → Type 0
HasField core roots class f field (Start p) = behind core (led_from core roots p) f ≡ object_of field.kind
HasField core roots class f field (Fresh n) = (field.is_static ≡ false) × (is_read core class field.class ≡ false)

pub record IsBase (core : Core) (roots : Roots) (class : ClassId) (f : FieldId) (field : FieldCore) (v : Value)
    : Type 0 where
  pub object : Object
  pub is : v ≡ value.Object object
  pub has : HasField core roots class f field object

module _ (core : Core) (roots : Roots) (classes : (c : ClassId) → roots (StartClass c) ≡ Some (TheClass c))
    (class : ClassId) (f : FieldId) (field : FieldCore) (there : field_at core f ≡ Some field) where
  -- ---- the base

  behind-is : (r : Reached) → behind core (Some r) f ≡ behind_field field r
  behind-is r = ap (λ (o : Option FieldCore). option_and_then (λ (x : FieldCore). behind_field x r) o) there

  behind-class : field.is_static ≡ true → behind core (Some (TheClass field.class)) f ≡ object_of field.kind
  behind-class static =
      behind-is (TheClass field.class)
      ∙ ap (λ (b : Bool). cond b (object_of field.kind) None)
      (and_from (same_class field.class field.class) field.is_static (class_same field.class) static)

  behind-object : field.is_static ≡ false → behind core (Some (ObjectOf field.class)) f ≡ object_of field.kind
  behind-object instance =
      behind-is (ObjectOf field.class)
      ∙ ap (λ (b : Bool). cond b (object_of field.kind) None)
      (and_from (same_class field.class field.class) (not field.is_static) (class_same field.class) (ap not instance))

  of-class : (v : Value) → field.is_static ≡ true → v ≡ class_value field.class →
      IsBase core roots class f field v
  of-class v static is =
      record {
        object = Start (root_path (StartClass field.class));
        is = is;
        has = ap (λ (r : Option Reached). behind core r f) (classes field.class) ∙ behind-class static;
      }

  of-object : (v : Value) → field.is_static ≡ false → IsOf core roots class field.class v →
      IsBase core roots class f field v
  of-object value.Plain instance h = absurd h
  of-object value.Opaque instance h = absurd h
  of-object value.Null instance h = absurd h
  of-object (value.Object (Start p)) instance h =
      record {
        object = Start p;
        is = refl;
        has = ap (λ (r : Option Reached). behind core r f) h ∙ behind-object instance;
      }
  of-object (value.Object (Fresh n)) instance h = record { object = Fresh n; is = refl; has = (instance, h) }

  pub base-is : (v : Value) → IsValue core roots class (base_kind field) v → IsBase core roots class f field v
  base-is v =
      elim field.is_static as (λ b. field.is_static ≡ b →
      IsValue core roots class (cond b (kind.Class field.class) (kind.Object field.class)) v →
      IsBase core roots class f field v) [
        | true ↦ λ e h. of-class v e h
        | false ↦ λ e h. of-object v e h
      ] refl

  -- ---- what is read

  longer : (p : StartPath) → led_from core roots (lengthened p f) ≡ behind core (led_from core roots p) f
  longer p = fold_push (behind core) (roots p.root) p.fields f

  null-first : field.is_static ≡ false → is_plain field.kind ≡ false →
      is_null_at_first field.class (field_at core f) ≡ true
  null-first instance some =
      ap (is_null_at_first field.class) there
      ∙ and_from (same_class field.class field.class && not field.is_static) (not (is_plain field.kind))
      (and_from (same_class field.class field.class) (not field.is_static) (class_same field.class) (ap not instance))
      (ap not some)

  -- no field that may hold null is read of an object that was made
  not-made : {X : Type 0} → ((c : ClassId) → reads_field_of core c (Get f) ≡ true → is_read core class c ≡ true) →
      (field.is_static ≡ false) × (is_read core class field.class ≡ false) → is_plain field.kind ≡ false → X
  not-made reads has some =
      let wrong : true ≡ false = sym (reads field.class (null-first has.0 some)) ∙ has.1 in absurd cc

  module _ (reads : (c : ClassId) → reads_field_of core c (Get f) ≡ true → is_read core class c ≡ true) where
    unstored-value : (heap : StartPath → Bool) (k : Kind) (o : Object) → field.kind ≡ k →
        ((p : StartPath) → heap p ≡ true) → HasField core roots class f field o →
        IsValue core roots class (kind_of k) (unstored heap k o f)
    unstored-value heap Plain o same full has = tt
    unstored-value heap Other (Start p) same full has = tt
    unstored-value heap Other (Fresh n) same full has = not-made reads has (ap is_plain same)
    unstored-value heap (Declared c) (Fresh n) same full has = not-made reads has (ap is_plain same)
    unstored-value heap (Declared c) (Start p) same full has =
        subst (λ (b : Bool).
        IsOf core roots class c (cond b (value.Object (Start (lengthened p f))) value.Null))
        (sym (full (lengthened p f))) (longer p ∙ has ∙ ap object_of same)

    pub read-value : (store : Store) (o : Object) → AreStored core roots class store →
        HasField core roots class f field o → IsValue core roots class (kind_of field.kind) (read core store o f)
    read-value store o stored has =
        let same : field_kind core f ≡ field.kind = kind-there core f field there in
        elim (store.cells o f) as (λ (x : Option Value). store.cells o f ≡ x →
        IsValue core roots class (kind_of field.kind) (elim x as (λ _. Value) [
          | None ↦ unstored store.heap (field_kind core f) o f
          | Some v ↦ v
        ])) [
          | None ↦ λ e.
              subst (λ (k : Kind). IsValue core roots class (kind_of field.kind) (unstored store.heap k o f)) (sym same)
              (unstored-value store.heap field.kind o refl stored.full has)
          | Some v ↦ λ e. subst (λ (k : Kind). IsValue core roots class (kind_of k) v) same (stored.cell o f v e)
        ] refl
