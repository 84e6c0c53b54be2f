-- An operation in one frame keeps what the kinds of typed classes say, and is stuck at a throw alone.
use Rattle.std.proofs.Common.{◌≡◌, ℕ, true, false, cond, ◌&&◌, List, Option, None, Some}
use Rattle.std.proofs.Common.{refl, sym, ap, subst, ◌∙◌}
use Rattle.std.proofs.lemmas.Bool.{eqb-true, and_parts}
use Rattle.racer_base.specs.declared.ids.ClassId.{ClassId}
use Rattle.racer_base.specs.declared.ids.FieldId.{FieldId}
use Rattle.racer_base.specs.declared.ids.Kind.{Kind}
use Rattle.access_paths.specs.Paths.{same_field}
use Rattle.core_code.specs.declared.code.Op.{Op as CoreOp}
use Rattle.core_code.specs.declared.code.Op.TheVariants.{Push, PushClass, PushPrim, PushNull, New, Dup, Drop, Get, Put}
use Rattle.core_code.specs.declared.code.Op.TheVariants.{Set, Prim, Outside, Call, Unread, Ret, Throw}
use Rattle.core_code.specs.declared.parts.FieldCore.{FieldCore}
use Rattle.core_code.specs.Core.{Core, Method}
use Rattle.core_code.specs.KindCheck.{field_at}
use Rattle.core_semantics.specs.declared.object.Object.{Object}
use Rattle.core_semantics.specs.declared.object.StartRoot.TheVariants.{Class as StartClass}
use Rattle.core_semantics.specs.declared.object.Value.{Value}
use Rattle.core_semantics.specs.Objects.{same_object}
use Rattle.core_semantics.specs.State.{Store, Todo}
use Rattle.core_semantics.specs.Steps.{Inner, Next, base_of, going, inner_step, kind_of as field_kind, on_base, put}
use Rattle.core_semantics.specs.Steps.{read, replaced, slot_of, top, written}
use Rattle.core_semantics.proofs.FieldKinds.{kind-there}
use Rattle.core_semantics_kinds.specs.Kinding.{IsInner, StepKeeps, is_inner}
use Rattle.core_semantics_kinds.specs.Reached.{Roots, TheClass}
use Rattle.core_semantics_kinds.proofs.PlaceValues.{stand-drop}
use Rattle.typed_core.specs.declared.kinds.TypedKind.{TypedKind}
use Rattle.typed_core.specs.declared.kinds.TypedKind.TheVariants as kind
use Rattle.typed_core.specs.declared.states.KindState.{KindState}
use Rattle.typed_core.specs.Kinds.{fits, kind_of, same_kind}
use Rattle.typed_core.specs.Needs.{base_of as base_kind, is_met, is_read_met, is_store_met, kinds_behind}
use Rattle.typed_core.specs.States as states
use Rattle.typed_core.specs.Typings.{reads_field_of}
use Rattle.typed_core.proofs.Order.{equal_of_same_kind}
use Rattle.typed_core_laws.specs.TypedValues.{AreHeld, AreStored, IsAllowed, IsValue, is_read, typed_kinds}
use Rattle.typed_core_laws.proofs.TypedPlaces.{stand-at, stand-put, value-fits}
use Rattle.typed_core_laws.proofs.TypedReads.{IsBase, base-is, read-value}

module _ (core : Core) (roots : Roots) (classes : (c : ClassId) → roots (StartClass c) ≡ Some (TheClass c))
    (class : ClassId) (method : Method) where
  abbrev InnerNext : Option KindState → List Todo → Next Inner → Type 0
  InnerNext known todo next =
      StepKeeps core (typed_kinds core roots class) (IsInner core (typed_kinds core roots class) method known todo) next

  -- a value in place of some
  replacing : (i : Inner) (s : KindState) (n : ℕ) (k : TypedKind) (v : Value) → AreStored core roots class i.store →
      AreHeld core roots class s i.frame.vars i.frame.stack → IsValue core roots class k v →
      InnerNext (Some (states.replaced s n k)) i.frame.todo (going i (replaced i.frame n v))
  replacing i s n k v stored held value =
      record {
        stored = stored;
        so =
            record {
              vars = held.vars;
              stack = (value, stand-drop (IsValue core roots class) n s.stack i.frame.stack held.stack);
            };
        todo_stays = refl;
      }

  -- ---- reads

  read-next : (i : Inner) (s : KindState) (f : FieldId) (field : FieldCore) → field_at core f ≡ Some field →
      ((c : ClassId) → reads_field_of core c (Get f) ≡ true → is_read core class c ≡ true) →
      AreStored core roots class i.store → AreHeld core roots class s i.frame.vars i.frame.stack → (v : Value) →
      IsBase core roots class f field v →
      InnerNext (Some (states.replaced s 1 (kind_of field.kind))) i.frame.todo
      (on_base (base_of v) (λ o. going i (replaced i.frame 1 (read core i.store o f))))
  read-next i s f field there reads stored held v base =
      subst (λ (w : Value). InnerNext (Some (states.replaced s 1 (kind_of field.kind))) i.frame.todo
      (on_base (base_of w) (λ o. going i (replaced i.frame 1 (read core i.store o f))))) (sym base.is)
      (replacing i s 1 (kind_of field.kind) (read core i.store base.object f) stored held
      (read-value core roots classes class f field there reads i.store base.object stored base.has))

  get-next : (i : Inner) (s : KindState) (f : FieldId) (o : Option FieldCore) → field_at core f ≡ o →
      is_read_met o s ≡ true →
      ((c : ClassId) → reads_field_of core c (Get f) ≡ true → is_read core class c ≡ true) →
      AreStored core roots class i.store → AreHeld core roots class s i.frame.vars i.frame.stack →
      InnerNext
      (Some (states.replaced s 1 (elim o as (λ _. TypedKind) [ None ↦ kind.Other | Some x ↦ kind_of x.kind ])))
      i.frame.todo (on_base (base_of (top i.frame)) (λ o. going i (replaced i.frame 1 (read core i.store o f))))
  get-next i s f None there met reads stored held = absurd cc
  get-next i s f (Some field) there met reads stored held =
      read-next i s f field there reads stored held (top i.frame)
      (base-is core roots classes class f field there (top i.frame)
      (subst (λ (k : TypedKind). IsValue core roots class k (top i.frame))
      (sym (equal_of_same_kind (base_kind field) (states.top s) met))
      (stand-at core roots class 0 s.stack i.frame.stack held.stack)))

  -- ---- writes

  stored-more : (store : Store) (o : Object) (f : FieldId) (field : FieldCore) (v : Value) →
      AreStored core roots class store → field_at core f ≡ Some field →
      IsValue core roots class (kind_of field.kind) v → AreStored core roots class (written store o f v)
  stored-more store o f field v stored there is =
      record {
        full = stored.full;
        cell = λ p g x e.
            (elim (same_object o p && same_field f g) as (λ b. same_object o p && same_field f g ≡ b →
            cond b (Some v) (store.cells p g) ≡ Some x →
            IsValue core roots class (kind_of (field_kind core g)) x) [
              | true ↦ λ t s.
                  let number : f.0 ≡ g.0 = eqb-true f.0 g.0 (and_parts (same_object o p) (same_field f g) t).1 in
                  let same : v ≡ x = cc in
                  let its : field_kind core g ≡ field.kind =
                  ap (λ (n : ℕ). let h : FieldId = record { 0 = n } in field_kind core h) (sym number)
                  ∙ kind-there core f field there in
                  subst (λ (k : Kind). IsValue core roots class (kind_of k) x) (sym its)
                  (subst (IsValue core roots class (kind_of field.kind)) same is)
              | false ↦ λ t s. stored.cell p g x s
            ]) refl e;
      }

  put-on : (i : Inner) (s : KindState) (f : FieldId) (field : FieldCore) → field_at core f ≡ Some field →
      fits field.kind (states.top s) ≡ true → AreStored core roots class i.store →
      AreHeld core roots class s i.frame.vars i.frame.stack → (v : Value) → IsBase core roots class f field v →
      InnerNext (Some (states.replaced s 2 (states.top s))) i.frame.todo (on_base (base_of v) (put i f))
  put-on i s f field there fit stored held v base =
      let value : IsValue core roots class (states.top s) (top i.frame) =
      stand-at core roots class 0 s.stack i.frame.stack held.stack in
      subst (λ (w : Value). InnerNext (Some (states.replaced s 2 (states.top s))) i.frame.todo
      (on_base (base_of w) (put i f))) (sym base.is)
      (record {
        stored =
            stored-more i.store base.object f field (top i.frame) stored there
            (value-fits core roots class field.kind (states.top s) (top i.frame) fit value);
        so =
            record {
              vars = held.vars;
              stack = (value, stand-drop (IsValue core roots class) 2 s.stack i.frame.stack held.stack);
            };
        todo_stays = refl;
      })

  put-next : (i : Inner) (s : KindState) (f : FieldId) (o : Option FieldCore) → field_at core f ≡ o →
      is_store_met o s ≡ true → AreStored core roots class i.store →
      AreHeld core roots class s i.frame.vars i.frame.stack →
      InnerNext (Some (states.replaced s 2 (states.top s))) i.frame.todo (on_base (base_of (slot_of i.frame 1)) (put i f))
  put-next i s f None there met stored held = absurd cc
  put-next i s f (Some field) there met stored held =
      let both = and_parts (same_kind (base_kind field) (states.slot_of s 1)) (fits field.kind (states.top s)) met in
      put-on i s f field there both.1 stored held (slot_of i.frame 1)
      (base-is core roots classes class f field there (slot_of i.frame 1)
      (subst (λ (k : TypedKind). IsValue core roots class k (slot_of i.frame 1))
      (sym (equal_of_same_kind (base_kind field) (states.slot_of s 1) both.0))
      (stand-at core roots class 1 s.stack i.frame.stack held.stack)))

  -- ---- each operation

  pub inner-kept : (i : Inner) (op : CoreOp) (s : KindState) → is_inner op ≡ true → is_met core method op s ≡ true →
      IsAllowed core class op → AreStored core roots class i.store →
      AreHeld core roots class s i.frame.vars i.frame.stack →
      InnerNext (kinds_behind core op s) i.frame.todo (inner_step core i op)
  inner-kept i (Push v) s is met allowed stored held =
      replacing i s 0 (states.variable_of s v.0) _ stored held
      (stand-at core roots class v.0 s.vars i.frame.vars held.vars)
  inner-kept i (PushClass c) s is met allowed stored held = replacing i s 0 (kind.Class c) _ stored held refl
  inner-kept i PushPrim s is met allowed stored held = replacing i s 0 kind.Plain _ stored held tt
  inner-kept i PushNull s is met allowed stored held = replacing i s 0 kind.Unset _ stored held tt
  inner-kept i (New c) s is met allowed stored held =
      record {
        stored = record { full = stored.full; cell = stored.cell };
        so = record { vars = held.vars; stack = (allowed, held.stack) };
        todo_stays = refl;
      }
  inner-kept i Dup s is met allowed stored held =
      replacing i s 0 (states.top s) _ stored held (stand-at core roots class 0 s.stack i.frame.stack held.stack)
  inner-kept i Drop s is met allowed stored held =
      record {
        stored = stored;
        so =
            record {
              vars = held.vars;
              stack = stand-drop (IsValue core roots class) 1 s.stack i.frame.stack held.stack;
            };
        todo_stays = refl;
      }
  inner-kept i (Get f) s is met allowed stored held = get-next i s f (field_at core f) refl met allowed stored held
  inner-kept i (Put f) s is met allowed stored held = put-next i s f (field_at core f) refl met stored held
  inner-kept i (Set v) s is met allowed stored held =
      record {
        stored = stored;
        so =
            record {
              vars =
                  stand-put core roots class v.0 s.vars i.frame.vars (states.top s) (top i.frame)
                  (stand-at core roots class 0 s.stack i.frame.stack held.stack) held.vars;
              stack = held.stack;
            };
        todo_stays = refl;
      }
  inner-kept i (Prim n) s is met allowed stored held = replacing i s n kind.Plain _ stored held tt
  inner-kept i (Outside n) s is met allowed stored held = replacing i s n kind.Other _ stored held tt
  inner-kept i (Call m n) s is met allowed stored held = absurd cc
  inner-kept i (Unread m n) s is met allowed stored held = absurd allowed
  inner-kept i Ret s is met allowed stored held = absurd cc
  inner-kept i Throw s is met allowed stored held = refl
