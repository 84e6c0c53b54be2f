-- An operation in one frame keeps what the kinds of core code say.
use Rattle.std.proofs.Common.{◌≡◌, ℕ, true, false, cond, ◌&&◌, List, [], ◌∷◌, Option, None, Some}
use Rattle.std.proofs.Common.{drop, length, map, nat_le, slice_get, refl, sym, ap, subst, ◌∙◌}
use Rattle.std.proofs.lemmas.Bool.{eqb-true, and_parts}
use Rattle.std.proofs.lemmas.Option.{slice_get-map}
use Rattle.std.specs.Option.{option_map}
use Rattle.racer_base.specs.declared.ids.ClassId.{ClassId}
use Rattle.racer_base.specs.declared.ids.FieldId.{FieldId}
use Rattle.racer_base.specs.declared.ids.VarId.{VarId}
use Rattle.racer_base.specs.declared.ids.Kind.{Kind}
use Rattle.access_paths.specs.Paths.{same_field}
use Rattle.core_code.specs.declared.code.Op.{Op as CoreOp}
use Rattle.core_code.specs.declared.code.Op.TheVariants.{Push, PushClass, PushPrim, PushNull, New, Dup, Drop, Get, Put}
use Rattle.core_code.specs.declared.code.Op.TheVariants.{Set, Prim, Outside, Call, Unread, Ret, Throw}
use Rattle.core_code.specs.declared.parts.FieldCore.{FieldCore}
use Rattle.core_code.specs.Core.{Core, Method}
use Rattle.core_code.specs.KindCheck.{after_get, after_popping, after_push, after_put, after_set, field_at, is_base_of}
use Rattle.core_code.specs.KindCheck.{kinds_after_op, variable_at}
use Rattle.core_code.specs.Kinds.{StackKind, fits, kind_of}
use Rattle.core_code.proofs.KindLemmas.{where-is, IsWhere}
use Rattle.core_code.specs.Kinds as kinds
use Rattle.core_semantics.specs.declared.object.Object.{Object}
use Rattle.core_semantics.specs.declared.object.Object.TheVariants.{Fresh}
use Rattle.core_semantics.specs.declared.object.StartRoot.TheVariants.{Class as StartClass}
use Rattle.core_semantics.specs.declared.object.Value.{Value}
use Rattle.core_semantics.specs.declared.object.Value.TheVariants as value
use Rattle.core_semantics.specs.Objects.{same_object}
use Rattle.core_semantics.specs.State.{Store, Todo}
use Rattle.core_semantics.specs.Steps.{Inner, Next, base_of, going, inner_step, kind_of as field_kind, on_base, put}
use Rattle.core_semantics.specs.Steps.{read, replaced, slot_of, top, written}
use Rattle.core_semantics.proofs.FieldKinds.{kind-there}
use Rattle.core_semantics_kinds.specs.Kinding.{StepKeeps, IsInner}
use Rattle.core_semantics_kinds.specs.ObjectKinds.{AreStored, AreValues, IsValue, object_kinds}
use Rattle.core_semantics_kinds.specs.Reached.{Roots, TheClass}
use Rattle.core_semantics_kinds.proofs.KindValues.{value-fits}
use Rattle.core_semantics_kinds.proofs.PlaceValues.{stand-drop, stand-set, stand-slot, stand-top}
use Rattle.core_semantics_kinds.proofs.Reading.{read-value}

module _ (core : Core) (roots : Roots) (classes : (c : ClassId) → roots (StartClass c) ≡ Some (TheClass c))
    (method : Method) where
  abbrev Vars : List Value → Type 0
  Vars xs = AreValues core roots (map kind_of method.variables) xs

  abbrev InnerNext : List StackKind → List Todo → Next Inner → Type 0
  InnerNext ks todo next =
      StepKeeps core (object_kinds core roots) (IsInner core (object_kinds core roots) method ks todo) next

  kind-at : (i : ℕ) (kind : Kind) → slice_get method.variables i ≡ Some kind →
      slice_get (map kind_of method.variables) i ≡ Some (kind_of kind)
  kind-at i kind is = slice_get-map kind_of method.variables i ∙ ap (option_map kind_of) is

  -- a value pushed in place of some
  pushed : (i : Inner) (ks ls : List StackKind) (k : StackKind) (n : ℕ) (v : Value) → k ∷ ls ≡ ks →
      AreStored core roots i.store → Vars i.frame.vars → AreValues core roots ls (drop n i.frame.stack) →
      IsValue core roots k v → InnerNext ks i.frame.todo (going i (replaced i.frame n v))
  pushed i ks ls k n v same stored vars stack value =
      record {
        stored = stored;
        so =
            record {
              vars = vars;
              stack =
                  subst (λ (a : List StackKind). AreValues core roots a (v ∷ drop n i.frame.stack)) same
                  (value, stack);
            };
        todo_stays = refl;
      }

  -- ---- writes

  stored-more : (store : Store) (o : Object) (f : FieldId) (field : FieldCore) (v : Value) →
      AreStored core roots store → field_at core f ≡ Some field → IsValue core roots (kind_of field.kind) v →
      AreStored core roots (written store o f v)
  stored-more store o f field v stored there is =
      record {
        cell = λ p g x e.
            (elim (same_object o p && same_field f g) as (λ b. same_object o p && same_field f g ≡ b →
            cond b (Some v) (store.cells p g) ≡ Some x → IsValue core roots (kind_of (field_kind core g)) x) [
              | true ↦ λ t s.
                  let number : f.0 ≡ g.0 = eqb-true f.0 g.0 (and_parts (same_object o p) (same_field f g) t).1 in
                  let same : v ≡ x = cc in
                  let kind : field_kind core g ≡ field.kind =
                  ap (λ (n : ℕ). let h : FieldId = record { 0 = n } in field_kind core h) (sym number)
                  ∙ kind-there core f field there in
                  subst (λ (k : Kind). IsValue core roots (kind_of k) x) (sym kind)
                  (subst (IsValue core roots (kind_of field.kind)) same is)
              | false ↦ λ t s. stored.cell p g x s
            ]) refl e;
      }

  get-next : (i : Inner) (ks ls : List StackKind) (base : StackKind) (f : FieldId) (field : FieldCore) (v : Value) →
      kind_of field.kind ∷ ls ≡ ks → field_at core f ≡ Some field → is_base_of field base ≡ true →
      AreStored core roots i.store → Vars i.frame.vars → AreValues core roots ls (drop 1 i.frame.stack) →
      IsValue core roots base v →
      InnerNext ks i.frame.todo
      (on_base (base_of v) (λ o. going i (replaced i.frame 1 (read core i.store o f))))
  get-next i ks ls base f field value.Plain same there is stored vars stack h = tt
  get-next i ks ls base f field value.Opaque same there is stored vars stack h = tt
  get-next i ks ls base f field value.Null same there is stored vars stack h = tt
  get-next i ks ls base f field (value.Object o) same there is stored vars stack h =
      pushed i ks ls (kind_of field.kind) 1 (read core i.store o f) same stored vars stack
      (read-value core roots i.store field base o f stored there is h)

  put-next : (i : Inner) (ks ls : List StackKind) (k : StackKind) (f : FieldId) (field : FieldCore) (v : Value) →
      k ∷ ls ≡ ks → field_at core f ≡ Some field → fits field.kind k ≡ true →
      AreStored core roots i.store → Vars i.frame.vars → AreValues core roots ls (drop 2 i.frame.stack) →
      IsValue core roots k (top i.frame) →
      InnerNext ks i.frame.todo (on_base (base_of v) (put i f))
  put-next i ks ls k f field value.Plain same there is stored vars stack h = tt
  put-next i ks ls k f field value.Opaque same there is stored vars stack h = tt
  put-next i ks ls k f field value.Null same there is stored vars stack h = tt
  put-next i ks ls k f field (value.Object o) same there is stored vars stack h =
      record {
        stored =
            stored-more i.store o f field (top i.frame) stored there
            (value-fits core roots field.kind k (top i.frame) is h);
        so =
            record {
              vars = vars;
              stack =
                  subst (λ (a : List StackKind). AreValues core roots a (top i.frame ∷ drop 2 i.frame.stack)) same
                  (h, stack);
            };
        todo_stays = refl;
      }

  -- ---- each operation

  popping : (i : Inner) (n : ℕ) (k : StackKind) (ks after : List StackKind) (v : Value) →
      after_popping n k ks ≡ Some after → AreStored core roots i.store → Vars i.frame.vars →
      AreValues core roots ks i.frame.stack → IsValue core roots k v →
      InnerNext after i.frame.todo (going i (replaced i.frame n v))
  popping i n k ks after v e stored vars stack is =
      let w : IsWhere (nat_le n (length ks)) (k ∷ drop n ks) after = where-is _ (k ∷ drop n ks) after e in
      pushed i after (drop n ks) k n v w.same stored vars (stand-drop (IsValue core roots) n ks i.frame.stack stack) is

  push-next : (i : Inner) (v : VarId) (o : Option Kind) (ks after : List StackKind) → variable_at method v ≡ o →
      after_push o ks ≡ Some after → AreStored core roots i.store → Vars i.frame.vars →
      AreValues core roots ks i.frame.stack →
      InnerNext after i.frame.todo (inner_step core i (Push v))
  push-next i v None ks after there e stored vars stack = absurd cc
  push-next i v (Some kind) ks after there e stored vars stack =
      let same : kind_of kind ∷ ks ≡ after = cc in
      pushed i after ks (kind_of kind) 0 _ same stored vars stack
      (stand-slot (IsValue core roots) v.0 (map kind_of method.variables) i.frame.vars (kind_of kind)
      (kind-at v.0 kind there) vars)

  set-next : (i : Inner) (v : VarId) (o : Option Kind) (ks after : List StackKind) → variable_at method v ≡ o →
      after_set o ks ≡ Some after → AreStored core roots i.store → Vars i.frame.vars →
      AreValues core roots ks i.frame.stack →
      InnerNext after i.frame.todo (inner_step core i (Set v))
  set-next i v None ks after there e stored vars stack = absurd cc
  set-next i v (Some kind) [] after there e stored vars stack = absurd cc
  set-next i v (Some kind) (k ∷ ks) after there e stored vars stack =
      let w : IsWhere (fits kind k) (k ∷ ks) after = where-is (fits kind k) (k ∷ ks) after e in
      record {
        stored = stored;
        so =
            record {
              vars =
                  stand-set (IsValue core roots) v.0 (map kind_of method.variables) i.frame.vars (kind_of kind)
                  (top i.frame) (kind-at v.0 kind there)
                  (value-fits core roots kind k (top i.frame) w.holds
                  (stand-top (IsValue core roots) k ks i.frame.stack stack)) vars;
              stack = subst (λ (a : List StackKind). AreValues core roots a i.frame.stack) w.same stack;
            };
        todo_stays = refl;
      }

  dup-next : (i : Inner) (ks after : List StackKind) → kinds_after_op core method Dup ks ≡ Some after →
      AreStored core roots i.store → Vars i.frame.vars → AreValues core roots ks i.frame.stack →
      InnerNext after i.frame.todo (inner_step core i Dup)
  dup-next i [] after e stored vars stack = absurd cc
  dup-next i (k ∷ ks) after e stored vars stack =
      let same : k ∷ k ∷ ks ≡ after = cc in
      pushed i after (k ∷ ks) k 0 (top i.frame) same stored vars stack
      (stand-top (IsValue core roots) k ks i.frame.stack stack)

  drop-next : (i : Inner) (ks after : List StackKind) → kinds_after_op core method Drop ks ≡ Some after →
      AreStored core roots i.store → Vars i.frame.vars → AreValues core roots ks i.frame.stack →
      InnerNext after i.frame.todo (inner_step core i Drop)
  drop-next i [] after e stored vars stack = absurd cc
  drop-next i (k ∷ ks) after e stored vars stack =
      let same : ks ≡ after = cc in
      record {
        stored = stored;
        so =
            record {
              vars = vars;
              stack =
                  subst (λ (a : List StackKind). AreValues core roots a (drop 1 i.frame.stack)) same
                  (stand-drop (IsValue core roots) 1 (k ∷ ks) i.frame.stack stack);
            };
        todo_stays = refl;
      }

  get-op : (i : Inner) (f : FieldId) (o : Option FieldCore) (ks after : List StackKind) → field_at core f ≡ o →
      after_get o ks ≡ Some after → AreStored core roots i.store → Vars i.frame.vars →
      AreValues core roots ks i.frame.stack →
      InnerNext after i.frame.todo (inner_step core i (Get f))
  get-op i f None ks after there e stored vars stack = absurd cc
  get-op i f (Some field) [] after there e stored vars stack = absurd cc
  get-op i f (Some field) (base ∷ ks) after there e stored vars stack =
      let w : IsWhere (is_base_of field base) (kind_of field.kind ∷ ks) after =
      where-is (is_base_of field base) (kind_of field.kind ∷ ks) after e in
      get-next i after ks base f field (top i.frame) w.same there w.holds stored vars
      (stand-drop (IsValue core roots) 1 (base ∷ ks) i.frame.stack stack)
      (stand-top (IsValue core roots) base ks i.frame.stack stack)

  put-op : (i : Inner) (f : FieldId) (o : Option FieldCore) (ks after : List StackKind) → field_at core f ≡ o →
      after_put o ks ≡ Some after → AreStored core roots i.store → Vars i.frame.vars →
      AreValues core roots ks i.frame.stack →
      InnerNext after i.frame.todo (inner_step core i (Put f))
  put-op i f None ks after there e stored vars stack = absurd cc
  put-op i f (Some field) [] after there e stored vars stack = absurd cc
  put-op i f (Some field) (k ∷ []) after there e stored vars stack = absurd cc
  put-op i f (Some field) (k ∷ base ∷ ks) after there e stored vars stack =
      let w : IsWhere (is_base_of field base && fits field.kind k) (k ∷ ks) after =
      where-is (is_base_of field base && fits field.kind k) (k ∷ ks) after e in
      put-next i after ks k f field (slot_of i.frame 1) w.same there
      (and_parts (is_base_of field base) (fits field.kind k) w.holds).1 stored vars
      (stand-drop (IsValue core roots) 2 (k ∷ base ∷ ks) i.frame.stack stack)
      (stand-top (IsValue core roots) k (base ∷ ks) i.frame.stack stack)

  pub inner-kept : (i : Inner) (op : CoreOp) (ks after : List StackKind) →
      kinds_after_op core method op ks ≡ Some after → AreStored core roots i.store → Vars i.frame.vars →
      AreValues core roots ks i.frame.stack →
      InnerNext after i.frame.todo (inner_step core i op)
  inner-kept i (Push v) ks after e stored vars stack =
      push-next i v (variable_at method v) ks after refl e stored vars stack
  inner-kept i (PushClass c) ks after e stored vars stack =
      let same : kinds.Class c ∷ ks ≡ after = cc in
      pushed i after ks (kinds.Class c) 0 _ same stored vars stack (classes c)
  inner-kept i PushPrim ks after e stored vars stack =
      let same : kinds.Plain ∷ ks ≡ after = cc in pushed i after ks kinds.Plain 0 _ same stored vars stack tt
  inner-kept i PushNull ks after e stored vars stack =
      let same : kinds.Null ∷ ks ≡ after = cc in pushed i after ks kinds.Null 0 _ same stored vars stack tt
  inner-kept i (New c) ks after e stored vars stack =
      let same : kinds.Declared c ∷ ks ≡ after = cc in
      record {
        stored = record { cell = stored.cell };
        so =
            record {
              vars = vars;
              stack =
                  subst (λ (a : List StackKind). AreValues core roots a
                  (value.Object (Fresh i.store.fresh) ∷ i.frame.stack)) same (tt, stack);
            };
        todo_stays = refl;
      }
  inner-kept i Dup ks after e stored vars stack = dup-next i ks after e stored vars stack
  inner-kept i Drop ks after e stored vars stack = drop-next i ks after e stored vars stack
  inner-kept i (Get f) ks after e stored vars stack =
      get-op i f (field_at core f) ks after refl e stored vars stack
  inner-kept i (Put f) ks after e stored vars stack =
      put-op i f (field_at core f) ks after refl e stored vars stack
  inner-kept i (Set v) ks after e stored vars stack =
      set-next i v (variable_at method v) ks after refl e stored vars stack
  inner-kept i (Prim n) ks after e stored vars stack = popping i n kinds.Plain ks after _ e stored vars stack tt
  inner-kept i (Outside n) ks after e stored vars stack = popping i n kinds.Opaque ks after _ e stored vars stack tt
  inner-kept i (Call m n) ks after e stored vars stack = tt
  inner-kept i (Unread m n) ks after e stored vars stack = tt
  inner-kept i Ret ks after e stored vars stack = tt
  inner-kept i Throw ks after e stored vars stack = tt
