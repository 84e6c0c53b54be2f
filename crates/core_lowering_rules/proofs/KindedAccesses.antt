-- What names, field accesses and array accesses read and store is kinded.
use Rattle.std.proofs.Common.{◌≡◌, ℕ, suc, Bool, true, false, cond, ◌&&◌, List, [], ◌∷◌, ◌++◌}
use Rattle.std.proofs.Common.{Option, Some, None}
use Rattle.std.proofs.Common.{length, refl, sym, ap, ◌∙◌, subst, slice_get}
use Rattle.std.specs.Option.{option_and_then}
use Rattle.std.proofs.lemmas.Option.{none-some}
use Rattle.container_cells.specs.declared.cell.Cell.{Cell}
use Rattle.racer_base.specs.declared.ids.ClassId.{ClassId}
use Rattle.racer_base.specs.declared.ids.FieldId.{FieldId}
use Rattle.racer_base.specs.declared.ids.VarId.{VarId}
use Rattle.racer_base.specs.declared.ids.Kind.{Kind}
use Rattle.racer_base.specs.declared.ids.Kind.TheVariants as types
use Rattle.racer_base.specs.declared.ids.Place.{Place}
use Rattle.java_tree.specs.declared.words.Ident.{Ident}
use Rattle.java_resolver.specs.declared.infos.FieldInfo.{FieldInfo}
use Rattle.java_resolver.specs.declared.scope.ScopeVariable.{ScopeVariable}
use Rattle.java_resolver.specs.declared.scope.Meaning.{Meaning}
use Rattle.java_resolver.specs.declared.scope.Meaning.TheVariants as means
use Rattle.java_resolver.specs.TypeKinds.{class_seen}
use Rattle.java_resolver.specs.Declarations.{class_names}
use Rattle.java_resolver.specs.Meanings.{field_named, variable_named}
use Rattle.core_code.specs.declared.code.Op.TheVariants.{Push, PushClass, Dup, Drop, Get, Put, Set, Prim, Outside}
use Rattle.core_code.specs.declared.parts.FieldCore.{FieldCore}
use Rattle.core_code.specs.Core.{Core, Method}
use Rattle.core_code.specs.Kinds.{StackKind, Plain, Declared, Class, Opaque, kind_of, same_class, same_kind, fits_class}
use Rattle.core_code.specs.Kinds.{fits}
use Rattle.core_code.specs.KindCheck as check
use Rattle.core_code.specs.KindCheck.{where_true, is_base_of, variable_at, after_push, after_get, after_put}
use Rattle.core_code.specs.KindCheck.{after_set}
use Rattle.core_code.proofs.KindLemmas.{class_same}
use Rattle.core_lowering_rules.specs.ValueKinds.{ValueKind, Of}
use Rattle.core_lowering_rules.specs.ValueKinds as value
use Rattle.core_lowering_rules.specs.Context.{Context, Code, op_at, op, push_this, push_own_class}
use Rattle.core_lowering_rules.specs.Assignments.{Storage, InVariable, InField, Elsewhere, kind_in, in_field}
use Rattle.core_lowering_rules.specs.Assignments.{of_meaning, of_name}
use Rattle.core_lowering_rules.specs.Assignments.{of_class, of_object, of_value, selected, element, read, assigned}
use Rattle.core_lowering_rules.specs.Assignments.{combined}
use Rattle.core_lowering_rules.specs.Assignments.{counted, field_at}
use Rattle.core_lowering_rules.specs.Cells.{content_core}
use Rattle.core_lowering_rules.specs.Touches.{cell_at}
use Rattle.core_lowering_rules.specs.Programs.{field_core}
use Rattle.core_lowering_rules.proofs.Suits.{Suits, fits-suits, suits-own}
use Rattle.core_lowering_rules.proofs.Runs.{Runs, nothing, followed, once, outside, popped, comes}
use Rattle.core_lowering_rules.proofs.Runs.{in_turn_3, in_turn_4, in_turn_5, in_turn_6, in_turn_7}
use Rattle.core_lowering_rules.proofs.FoundElements.{FieldThere, field-there, last-holds}
use Rattle.core_lowering_rules.proofs.Stands.{Stands, IsVariable}

-- code that leaves one value of this kind
pub record Leaves (core : Core) (m : Method) (code : Code) (kind : ValueKind) : Type 0 where
  pub leaves : (stack : List StackKind) → (s : StackKind) × Suits kind s × Runs core m code stack (s ∷ stack)

-- code that leaves so many values
pub record LeavesMany (core : Core) (m : Method) (code : Code) (n : ℕ) : Type 0 where
  pub leaves : (stack : List StackKind) →
      (values : List StackKind) × Runs core m code stack (values ++ stack) × (length values ≡ n)

-- code that leaves the base of a field
pub record IsBase (core : Core) (m : Method) (code : Code) (field : FieldCore) : Type 0 where
  pub leaves : (stack : List StackKind) →
      (base : StackKind) × Runs core m code stack (base ∷ stack) × (is_base_of field base ≡ true)

-- what a container holds is a field of the same base
pub record ContentAt (core : Core) (content : FieldId) (field : FieldCore) : Type 0 where
  pub own : FieldCore
  pub there : check.field_at core content ≡ Some own
  pub behind : (base : StackKind) → is_base_of field base ≡ true → is_base_of own base ≡ true

pub record FieldBase (core : Core) (m : Method) (context : Context) (f : FieldId) (kind : Kind) (base : Code) : Type 0
  where
    pub field : FieldCore
    pub there : check.field_at core f ≡ Some field
    pub kind_is : field.kind ≡ kind
    pub behind : IsBase core m base field
    pub content : (cell : Cell) → cell_at context f ≡ Some cell → ContentAt core cell.content field

abbrev pub IsStorage : Core → Method → Context → Storage → Type 0
IsStorage core m context (InVariable v kind) = variable_at m v ≡ Some kind
IsStorage core m context (InField f kind name base) = FieldBase core m context f kind base
IsStorage core m context (Elsewhere n operands) = LeavesMany core m operands n

cell-known : (o : Option (Option Cell)) (cell : Cell) →
    option_and_then (λ (own : Option Cell). own) o ≡ Some cell → o ≡ Some (Some cell)
cell-known None cell e = absurd (none-some _ e)
cell-known (Some own) cell e = ap (λ (c : Option Cell). Some c) e

module _ (core : Core) (m : Method) (context : Context) (stands : Stands core m context) where
  -- ---- operations

  pub pushes : (place : Place) (v : VarId) (kind : Kind) (stack : List StackKind) → variable_at m v ≡ Some kind →
      Runs core m (op_at place (Push v)) stack (kind_of kind ∷ stack)
  pushes place v kind stack e = once core m place (Push v) [] (kind_of kind ∷ []) stack refl refl refl (ap (λ
      (o : Option Kind). after_push o stack) e)

  pub sets : (place : Place) (v : VarId) (kind : Kind) (s : StackKind) (stack : List StackKind) →
      variable_at m v ≡ Some kind → fits kind s ≡ true → Runs core m (op_at place (Set v)) (s ∷ stack) (s ∷ stack)
  sets place v kind s stack e h =
      once core m place (Set v) (s ∷ []) (s ∷ []) stack refl refl refl
      (ap (λ (o : Option Kind). after_set o (s ∷ stack)) e ∙ ap (λ b. where_true b (s ∷ stack)) h)

  pub gets : (place : Place) (f : FieldId) (field : FieldCore) (base : StackKind) (stack : List StackKind) →
      check.field_at core f ≡ Some field → is_base_of field base ≡ true →
      Runs core m (op_at place (Get f)) (base ∷ stack) (kind_of field.kind ∷ stack)
  gets place f field base stack e h =
      once core m place (Get f) (base ∷ []) (kind_of field.kind ∷ []) stack refl refl refl
      (ap (λ (o : Option FieldCore). after_get o (base ∷ stack)) e
      ∙ ap (λ b. where_true b (kind_of field.kind ∷ stack)) h)

  pub puts : (place : Place) (f : FieldId) (field : FieldCore) (s base : StackKind) (stack : List StackKind) →
      check.field_at core f ≡ Some field → is_base_of field base ≡ true → fits field.kind s ≡ true →
      Runs core m (op_at place (Put f)) (s ∷ base ∷ stack) (s ∷ stack)
  puts place f field s base stack e h k =
      once core m place (Put f) (s ∷ base ∷ []) (s ∷ []) stack refl refl refl
      (ap (λ (o : Option FieldCore). after_put o (s ∷ base ∷ stack)) e
      ∙ ap (λ b. where_true (b && fits field.kind s) (s ∷ stack)) h ∙ ap (λ b. where_true b (s ∷ stack)) k)

  pub prims : (place : Place) (values stack : List StackKind) (n : ℕ) → length values ≡ n →
      Runs core m (op_at place (Prim n)) (values ++ stack) (Plain ∷ stack)
  prims place values stack n many = once core m place (Prim n) values (Plain ∷ []) stack many refl refl
      (popped Plain values stack n many)

  -- ---- what is there

  pub read-leaves : (s : Storage) → IsStorage core m context s → Leaves core m (read context s) (kind_in s)
  read-leaves (InVariable v kind) h =
      record { leaves = λ stack. (kind_of kind, suits-own kind, pushes context.place v kind stack h) }
  read-leaves (InField f kind name base) h =
      record {
        leaves = λ stack.
            let b = h.behind.leaves stack in (
              kind_of h.field.kind,
              subst (λ k. Suits (Of k) (kind_of h.field.kind)) h.kind_is (suits-own h.field.kind),
              followed core m b.1 (gets name f h.field b.0 stack h.there b.2),
            );
      }
  read-leaves (Elsewhere n operands) h =
      record {
        leaves = λ stack.
            let values = h.leaves stack in
            (Opaque, tt, followed core m values.1 (outside core m context.place values.0 stack n values.2));
      }

  -- what becomes of a value that is stored elsewhere
  elsewhere : {operands e : Code} {given : ValueKind} (n : ℕ) → LeavesMany core m operands n → Leaves core m e given →
      Leaves core m (operands ++ e ++ op context (Outside (suc n))) (Of types.Other)
  elsewhere n h l =
      record {
        leaves = λ stack.
            let values = h.leaves stack in
            let value = l.leaves (values.0 ++ stack) in (
              Opaque,
              tt,
              in_turn_3 core m values.1 value.2 (outside core m context.place (value.0 ∷ values.0) stack (suc n)
                  (ap suc values.2)),
            );
      }

  -- `= e`
  pub assigned-leaves : (s : Storage) → IsStorage core m context s → (given : ValueKind) (e : Code) → Leaves core m e given →
      Leaves core m (assigned context s given e) (kind_in s)
  assigned-leaves (InVariable v kind) h given e l =
      record {
        leaves = λ stack.
            let value = l.leaves stack in
            let c = comes core m context kind given value.0 stack value.1 in (
              c.to,
              fits-suits kind c.to c.fitting,
              in_turn_3 core m value.2 c.runs (sets context.place v kind c.to stack h c.fitting),
            );
      }
  assigned-leaves (InField f kind name base) h given e l =
      record {
        leaves = λ stack.
            let b = h.behind.leaves stack in
            let value = l.leaves (b.0 ∷ stack) in
            let c = comes core m context kind given value.0 (b.0 ∷ stack) value.1 in
            let fitting = subst (λ k. fits k c.to ≡ true) (sym h.kind_is) c.fitting in (
              c.to,
              fits-suits kind c.to c.fitting,
              in_turn_4 core m b.1 value.2 c.runs (puts name f h.field c.to b.0 stack h.there b.2 fitting),
            );
      }
  assigned-leaves (Elsewhere n operands) h given e l = elsewhere n h l

  -- `op= e`
  pub combined-leaves : (s : Storage) → IsStorage core m context s → (given : ValueKind) (e : Code) → Leaves core m e given →
      Leaves core m (combined context s e) (kind_in s)
  combined-leaves (InVariable v kind) h given e l =
      record {
        leaves = λ stack.
            let value = l.leaves (kind_of kind ∷ stack) in
            let c = comes core m context kind (Of types.Plain) Plain stack tt in (
              c.to,
              fits-suits kind c.to c.fitting,
              in_turn_5 core m (pushes context.place v kind stack h) value.2 (prims context.place
                  (value.0 ∷ kind_of kind ∷ []) stack 2 refl) c.runs (sets context.place v kind c.to stack h c.fitting),
            );
      }
  combined-leaves (InField f kind name base) h given e l =
      record {
        leaves = λ stack.
            let b = h.behind.leaves stack in
            let value = l.leaves (kind_of h.field.kind ∷ b.0 ∷ stack) in
            let c = comes core m context kind (Of types.Plain) Plain (b.0 ∷ stack) tt in
            let fitting = subst (λ k. fits k c.to ≡ true) (sym h.kind_is) c.fitting in (
              c.to,
              fits-suits kind c.to c.fitting,
              in_turn_7 core m b.1 (once core m context.place Dup (b.0 ∷ [])
                  (b.0 ∷ b.0 ∷ []) stack refl refl refl refl) (gets name f h.field b.0
                  (b.0 ∷ stack) h.there b.2) value.2 (prims context.place (value.0 ∷ kind_of h.field.kind ∷ [])
                  (b.0 ∷ stack) 2 refl) c.runs (puts name f h.field c.to b.0 stack h.there b.2 fitting),
            );
      }
  combined-leaves (Elsewhere n operands) h given e l = elsewhere n h l

  -- `++` and `--`
  pub counted-leaves : (s : Storage) → IsStorage core m context s → Leaves core m (counted context s) (Of types.Plain)
  counted-leaves (InVariable v kind) h =
      record {
        leaves = λ stack.
            let c = comes core m context kind (Of types.Plain) Plain stack tt in (
              c.to,
              tt,
              in_turn_4 core m (pushes context.place v kind stack h) (prims context.place
                  (kind_of kind ∷ []) stack 1 refl) c.runs (sets context.place v kind c.to stack h c.fitting),
            );
      }
  counted-leaves (InField f kind name base) h =
      record {
        leaves = λ stack.
            let b = h.behind.leaves stack in
            let c = comes core m context kind (Of types.Plain) Plain (b.0 ∷ stack) tt in
            let fitting = subst (λ k. fits k c.to ≡ true) (sym h.kind_is) c.fitting in (
              c.to,
              tt,
              in_turn_6 core m b.1 (once core m context.place Dup (b.0 ∷ [])
                  (b.0 ∷ b.0 ∷ []) stack refl refl refl refl) (gets name f h.field b.0
                  (b.0 ∷ stack) h.there b.2) (prims context.place (kind_of h.field.kind ∷ [])
                  (b.0 ∷ stack) 1 refl) c.runs (puts name f h.field c.to b.0 stack h.there b.2 fitting),
            );
      }
  counted-leaves (Elsewhere n operands) h =
      record {
        leaves = λ stack.
            let values = h.leaves stack in (
              Opaque,
              tt,
              followed core m values.1 (outside core m context.place values.0 stack n values.2),
            );
      }

  -- ---- what is stored where

  pub no_values : LeavesMany core m [] 0
  no_values = record { leaves = λ stack. ([], nothing core m stack, refl) }

  pub one_value : {e : Code} {kind : ValueKind} → Leaves core m e kind → LeavesMany core m e 1
  one_value l = record { leaves = λ stack. let value = l.leaves stack in (value.0 ∷ [], value.2, refl) }

  class-base : (info : FieldInfo) (c : ClassId) → info.class ≡ c → info.is_static ≡ true →
      is_base_of (field_core info) (Class c) ≡ true
  class-base info c same e =
      ap (λ b. cond b (same_class info.class c) (fits_class info.class (Class c))) e
      ∙ subst (λ d. same_class info.class d ≡ true) same (class_same info.class)

  object-base : (info : FieldInfo) (s : StackKind) → info.is_static ≡ false → fits_class info.class s ≡ true →
      is_base_of (field_core info) s ≡ true
  object-base info s e h = ap (λ b. cond b (same_kind (Class info.class) s) (fits_class info.class s)) e ∙ h

  by-static : (info : FieldInfo) (class object : Code) →
      (info.is_static ≡ true → IsBase core m class (field_core info)) →
      (info.is_static ≡ false → IsBase core m object (field_core info)) → (b : Bool) → info.is_static ≡ b →
      IsBase core m (cond b class object) (field_core info)
  by-static info class object p q true e = p e
  by-static info class object p q false e = q e

  field-in : (x : Ident) (f : FieldId) (info : FieldInfo) (class object : Code) → field_at context f ≡ Some info →
      (info.is_static ≡ true → IsBase core m class (field_core info)) →
      (info.is_static ≡ false → IsBase core m object (field_core info)) →
      IsStorage core m context (in_field class object x f (field_at context f))
  field-in x f info class object there p q =
      subst (λ o. IsStorage core m context (in_field class object x f o)) (sym there)
      (record {
        field = field_core info;
        there = stands.known.fields f info there;
        kind_is = refl;
        behind = by-static info class object p q info.is_static refl;
        content = λ cell e. record {
          own = content_core info;
          there = stands.known.cells f info cell there (cell-known (slice_get context.folder.cells f.0) cell e);
          behind = λ base h. h;
        };
      })

  class-pushed : (info : FieldInfo) (c : ClassId) → info.class ≡ c → info.is_static ≡ true →
      IsBase core m (op context (PushClass c)) (field_core info)
  class-pushed info c same e =
      record {
        leaves = λ stack. (
          Class c,
          once core m context.place (PushClass c) []
              (Class c ∷ []) stack refl refl refl refl,
          class-base info c same e,
        );
      }

  not-static : (s t : Bool) → (s ≡ true → t ≡ true) → t ≡ false → s ≡ false
  not-static true t f e = sym (f refl) ∙ e
  not-static false t f e = refl

  this-pushed : (info : FieldInfo) → info.class ≡ context.scope.class →
      (context.scope.is_static ≡ true → info.is_static ≡ true) → info.is_static ≡ false →
      IsBase core m (push_this context) (field_core info)
  this-pushed info same seen e =
      let inside = not-static context.scope.is_static info.is_static seen e in
      record {
        leaves = λ stack. (
          Declared context.scope.class,
          pushes context.place (record { 0 = 0 }) (types.Declared context.scope.class) stack (stands.object inside),
          object-base info (Declared context.scope.class) e
              (subst (λ d. same_class info.class d ≡ true) same (class_same info.class)),
        );
      }

  abbrev chosen_meaning : Option ScopeVariable → Option FieldId → Option ClassId → Meaning
  chosen_meaning (Some v) f c = means.Variable v.id v.kind
  chosen_meaning None (Some f) c = means.Field f
  chosen_meaning None None (Some c) = means.Class c
  chosen_meaning None None None = means.Opaque

  meaning-chosen : (o : Option ScopeVariable) (f : Option FieldId) (c : Option ClassId) →
      elim o as (λ _. Meaning) [
        | Some v ↦ means.Variable v.id v.kind
        | None ↦
            elim f as (λ _. Meaning) [
              | Some g ↦ means.Field g
              | None ↦ elim c as (λ _. Meaning) [ Some d ↦ means.Class d | None ↦ means.Opaque ]
            ]
      ] ≡ chosen_meaning o f c
  meaning-chosen (Some v) f c = refl
  meaning-chosen None (Some f) c = refl
  meaning-chosen None None (Some c) = refl
  meaning-chosen None None None = refl

  own-field : (x : Ident) (f : FieldId) →
      FieldThere context.folder.fields context.scope.class context.scope.is_static f →
      IsStorage core m context (in_field (push_own_class context) (push_this context) x f (field_at context f))
  own-field x f h =
      field-in x f h.info (push_own_class context) (push_this context) h.there
      (class-pushed h.info context.scope.class h.class_is) (this-pushed h.info h.class_is h.static_is)

  is-meant : (x : Ident) (o : Option ScopeVariable) (f : Option FieldId) (c : Option ClassId) →
      variable_named context.scope x.text ≡ o →
      field_named context.folder.fields context.scope.class context.scope.is_static x.text ≡ f →
      IsStorage core m context (of_meaning context x (chosen_meaning o f c))
  is-meant x (Some v) f c p q = last-holds (IsVariable m) _ context.scope.variables v stands.variables p
  is-meant x None (Some f) c p q =
      own-field x f (field-there context.folder.fields context.scope.class context.scope.is_static x.text f q)
  is-meant x None None (Some c) p q = no_values
  is-meant x None None None p q = no_values

  pub is-named : (x : Ident) → IsStorage core m context (of_name context x)
  is-named x =
      let o = variable_named context.scope x.text in
      let f = field_named context.folder.fields context.scope.class context.scope.is_static x.text in
      let c = class_seen context.scope.hidden (class_names context.folder.classes) x.text in
      subst (λ (mean : Meaning). IsStorage core m context (of_meaning context x mean)) (sym (meaning-chosen o f c))
      (is-meant x o f c refl refl)

  is-of_class : (c : ClassId) (x : Ident) (o : Option FieldId) →
      field_named context.folder.fields c true x.text ≡ o → IsStorage core m context (of_class context c x o)
  is-of_class c x None e = no_values
  is-of_class c x (Some f) e =
      let h = field-there context.folder.fields c true x.text f e in
      let pushed = class-pushed h.info c h.class_is (h.static_is refl) in
      field-in x f h.info (op context (PushClass c)) (op context (PushClass c)) h.there (λ _. pushed) (λ _. pushed)

  dropped : (e : Code) (c : ClassId) (info : FieldInfo) → Leaves core m e (Of (types.Declared c)) → info.class ≡ c →
      info.is_static ≡ true → IsBase core m (e ++ op context Drop ++ op context (PushClass c)) (field_core info)
  dropped e c info l same is_static =
      record {
        leaves = λ stack.
            let value = l.leaves stack in (
              Class c,
              in_turn_3 core m value.2 (once core m context.place Drop (value.0 ∷ []) [] stack refl refl refl refl)
                  (once core m context.place (PushClass c) [] (Class c ∷ []) stack refl refl refl refl),
              class-base info c same is_static,
            );
      }

  object-there : (e : Code) (c : ClassId) (info : FieldInfo) → Leaves core m e (Of (types.Declared c)) →
      info.class ≡ c → info.is_static ≡ false → IsBase core m e (field_core info)
  object-there e c info l same is_static =
      record {
        leaves = λ stack.
            let value = l.leaves stack in (
              value.0,
              value.2,
              object-base info value.0 is_static (subst (λ d. fits_class d value.0 ≡ true) (sym same) value.1),
            );
      }

  is-of_object : (c : ClassId) (e : Code) (x : Ident) (o : Option FieldId) →
      field_named context.folder.fields c false x.text ≡ o → Leaves core m e (Of (types.Declared c)) →
      IsStorage core m context (of_object context c e x o)
  is-of_object c e x None h l = one_value l
  is-of_object c e x (Some f) h l =
      let there = field-there context.folder.fields c false x.text f h in
      field-in x f there.info (e ++ op context Drop ++ op context (PushClass c)) e there.there
      (dropped e c there.info l there.class_is) (object-there e c there.info l there.class_is)

  is-of_value : (kind : ValueKind) (e : Code) (x : Ident) → Leaves core m e kind →
      IsStorage core m context (of_value context kind e x)
  is-of_value value.Null e x l = one_value l
  is-of_value (Of types.Plain) e x l = one_value l
  is-of_value (Of types.Other) e x l = one_value l
  is-of_value (Of (types.Declared c)) e x l = is-of_object c e x
      (field_named context.folder.fields c false x.text) refl l

  pub is-selected : (class : Option ClassId) (kind : ValueKind) (e : Code) (x : Ident) → Leaves core m e kind →
      IsStorage core m context (selected context class kind e x)
  is-selected None kind e x l = is-of_value kind e x l
  is-selected (Some c) kind e x l = is-of_class c x (field_named context.folder.fields c true x.text) refl

  pub is-element : (a i : Code) {k l : ValueKind} → Leaves core m a k → Leaves core m i l →
      IsStorage core m context (element a i)
  is-element a i p q =
      record {
        leaves = λ stack.
            let first = p.leaves stack in
            let second = q.leaves (first.0 ∷ stack) in
            (second.0 ∷ first.0 ∷ [], followed core m first.2 second.2, refl);
      }

-- the kind of what is stored does not depend on the code

kind_in-in_field : (class object class' object' : Code) (x : Ident) (f : FieldId) (o : Option FieldInfo) →
    kind_in (in_field class object x f o) ≡ kind_in (in_field class' object' x f o)
kind_in-in_field class object class' object' x f None = refl
kind_in-in_field class object class' object' x f (Some info) = refl

kind_in-of_object : (context : Context) (c : ClassId) (e e' : Code) (x : Ident) (o : Option FieldId) →
    kind_in (of_object context c e x o) ≡ kind_in (of_object context c e' x o)
kind_in-of_object context c e e' x None = refl
kind_in-of_object context c e e' x (Some f) =
    kind_in-in_field (e ++ op context Drop ++ op context (PushClass c)) e
    (e' ++ op context Drop ++ op context (PushClass c)) e' x f (field_at context f)

pub kind_in-selected : (context : Context) (class : Option ClassId) (kind : ValueKind) (e e' : Code) (x : Ident) →
    kind_in (selected context class kind e x) ≡ kind_in (selected context class kind e' x)
kind_in-selected context (Some c) kind e e' x = refl
kind_in-selected context None value.Null e e' x = refl
kind_in-selected context None (Of types.Plain) e e' x = refl
kind_in-selected context None (Of types.Other) e e' x = refl
kind_in-selected context None (Of (types.Declared c)) e e' x =
    kind_in-of_object context c e e' x (field_named context.folder.fields c false x.text)
