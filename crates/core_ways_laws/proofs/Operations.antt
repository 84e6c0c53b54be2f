-- Each operation but a call keeps the invariant.
use Rattle.std.proofs.Common.{◌≡◌, ℕ, suc, Bool, true, ◌&&◌, List, [], ◌∷◌, Option, None, Some}
use Rattle.std.proofs.Common.{IsTrue, drop, length, map, nat_le, slice_index_or, slice_set, refl, sym, ap, subst}
use Rattle.std.proofs.Common.{◌∙◌}
use Rattle.std.specs.Prelude.{Result, Ok, Err}
use Rattle.std.proofs.lemmas.Bool.{and_parts}
use Rattle.racer_base.specs.declared.ids.ClassId.{ClassId}
use Rattle.racer_base.specs.declared.ids.FieldId.{FieldId}
use Rattle.racer_base.specs.declared.ids.SiteId.{SiteId}
use Rattle.racer_base.specs.declared.ids.VarId.{VarId}
use Rattle.racer_base.specs.declared.ids.Kind.{Kind}
use Rattle.access_paths.specs.declared.path.Path.{Path}
use Rattle.access_paths.specs.declared.path.Root.{Root}
use Rattle.access_paths.specs.declared.path.Root.TheVariants.{This, Class, Formal, Some as SomeOf}
use Rattle.access_paths.specs.Paths.{alone}
use Rattle.owner_domain.specs.declared.value.State.{State}
use Rattle.owner_domain.specs.declared.value.Value.{Value as Called}
use Rattle.owner_domain.specs.declared.value.Value.TheVariants.{Owned, Named, Unnamed}
use Rattle.access_domain.specs.Findings.{Table}
use Rattle.access_domain.specs.FlowContext.{given_of}
use Rattle.access_domain.specs.Operations.{Effects, op_effects, popped, pushed, read_value, replaced, slot_of, top}
use Rattle.core_code.specs.declared.code.Op.{Op as CoreOp}
use Rattle.core_code.specs.declared.code.Op.TheVariants.{Push, PushClass, PushPrim, PushNull, New, Dup, Drop, Get, Put}
use Rattle.core_code.specs.declared.code.Op.TheVariants.{Set, Prim, Outside, Call, Unread, Ret, Throw}
use Rattle.core_code.specs.declared.parts.FieldCore.{FieldCore}
use Rattle.core_code.specs.Calls.{called_by}
use Rattle.core_code.specs.Core.{Core, Method}
use Rattle.core_code.specs.KindCheck.{after_get, after_popping, after_push, after_put, after_return, after_set}
use Rattle.core_code.specs.KindCheck.{field_at, is_base_of, kinds_after_op, variable_at}
use Rattle.core_code.specs.Kinds.{StackKind, Plain, Declared, Class as ClassOf, Null as NullKind, Opaque as OpaqueKind}
use Rattle.core_code.specs.Kinds.{fits, kind_of}
use Rattle.core_code.proofs.KindLemmas.{where-is, IsWhere}
use Rattle.core_semantics.specs.declared.answer.Why.{Why}
use Rattle.core_semantics.specs.declared.object.Object.{Object}
use Rattle.core_semantics.specs.declared.object.Object.TheVariants.{Start, Fresh}
use Rattle.core_semantics.specs.declared.object.StartPath.{StartPath}
use Rattle.core_semantics.specs.declared.object.StartRoot.TheVariants.{Class as StartClass}
use Rattle.core_semantics.specs.declared.object.Value.{Value}
use Rattle.core_semantics.specs.declared.object.Value.TheVariants.{Plain as PlainValue, Opaque, Null, Object as Ref}
use Rattle.core_semantics.specs.Objects.{root_path}
use Rattle.core_semantics.specs.State.{Store}
use Rattle.core_semantics.specs.Steps.{base_of, going, on_base, put, read, replaced as frame_replaced, written}
use Rattle.core_ways.specs.Stable.{is_lasting_root}
use Rattle.core_ways_laws.specs.Values.{Behind, Calls, Point, behind, evaluate_op, inner_of, top_value}
use Rattle.core_ways_laws.specs.Kept.{IsKept}
use Rattle.core_ways_laws.specs.Names.{Naming, name_of}
use Rattle.core_ways_laws.specs.Places.{AreHushed, ArePlaces, IsFrame, IsPlace, IsStore, start_object}
use Rattle.core_ways_laws.specs.Quiet.{Quietness, are_declared, start_path, start_root}
use Rattle.core_ways_laws.proofs.KindFacts.{strong_base, strong_fitting}
use Rattle.core_ways_laws.proofs.PlaceLists.{of_kind, place_slot, places_drop, variable_slot, variables_set}
use Rattle.core_ways_laws.proofs.Reading.{read-place, same-start}
use Rattle.core_ways_laws.proofs.Writing.{write-store}

-- ---- kinds

-- the object that a value is
pub base-object : (v : Value) (o : Object) → base_of v ≡ Ok o → v ≡ Ref o
base-object PlainValue o e = absurd cc
base-object Opaque o e = absurd cc
base-object Null o e = absurd cc
base-object (Ref p) o e = let same : p ≡ o = cc in ap Ref same

-- a root that lasts and is that of a class at the begin of a run
class-root : (r : Root) (c : ClassId) → IsTrue (is_lasting_root r) → start_root r ≡ StartClass c → Class c ≡ r
class-root This c lasts e = absurd cc
class-root (Class d) c lasts e = let same : d ≡ c = cc in ap Class (sym same)
class-root (Formal i) c lasts e = absurd cc
class-root (SomeOf d) c lasts e = absurd cc

module _ (core : Core) (quiet : Quietness core) (n : Naming) where
  -- ---- places of new values

  -- a value that is no object of a quiet path, and has no name
  unnamed-place : (kind : StackKind) (called : Called) (x : Value) → name_of n called ≡ None →
      ((q : Path) → x ≡ start_object q → ⊥) → IsPlace core quiet kind (name_of n called) x
  unnamed-place kind called x none other =
      record {
        held = λ q e in_q. let wrong : None ≡ Some q = sym none ∙ e in absurd cc;
        called = λ strong q e in_q. absurd (other q e);
        declared = λ strong q e. let wrong : None ≡ Some q = sym none ∙ e in absurd cc;
      }

  plain-place : (kind : StackKind) → IsPlace core quiet kind (name_of n Unnamed) PlainValue
  plain-place kind = unnamed-place kind Unnamed PlainValue refl (λ q e. absurd cc)

  opaque-place : (kind : StackKind) → IsPlace core quiet kind (name_of n Unnamed) Opaque
  opaque-place kind = unnamed-place kind Unnamed Opaque refl (λ q e. absurd cc)

  null-place : (kind : StackKind) → IsPlace core quiet kind (name_of n Owned) Null
  null-place kind = unnamed-place kind Owned Null refl (λ q e. absurd cc)

  fresh-place : (kind : StackKind) (m : ℕ) → IsPlace core quiet kind (name_of n Owned) (Ref (Fresh m))
  fresh-place kind m = unnamed-place kind Owned (Ref (Fresh m)) refl (λ q e. absurd cc)

  class-place : (kind : StackKind) (c : ClassId) →
      IsPlace core quiet kind (name_of n (Named (alone (Class c)))) (Ref (Start (root_path (StartClass c))))
  class-place kind c =
      record {
        held = λ q e in_q. let same : alone (Class c) ≡ q = cc in ap start_object same;
        called = λ strong q e in_q.
            let same : root_path (StartClass c) ≡ start_path q =
            same-start (root_path (StartClass c)) (start_path q) e in
            let root : Class c ≡ q.root =
            class-root q.root c (quiet.lasts q in_q) (ap (λ (p : StartPath). p.root) (sym same)) in
            let fields : [] ≡ q.fields = ap (λ (p : StartPath). p.fields) same in
            (λ i. let p : Path = record { root = root i; fields = fields i } in Some p);
        declared = λ strong q e. let same : alone (Class c) ≡ q = cc in ap (are_declared core) (sym same);
      }

abbrev made_store : Store → Store
made_store store = record store { fresh = suc store.fresh }

abbrev point : Store → List Value → List Value → Point
point store vars stack = record { store = store; vars = vars; stack = stack }

module _ (core : Core) (quiet : Quietness core) (n : Naming) (method : Method) where
  -- what comes behind an operation with these places
  goes : (e : Effects) (s : State) (at : Point) (kinds after : List StackKind) → e.next ≡ Some s → kinds ≡ after →
      ArePlaces core quiet n (map kind_of method.variables) s.vars at.vars →
      ArePlaces core quiet n kinds s.stack at.stack → IsStore core quiet at.store →
      IsKept core quiet n method after e (Some (Behind at))
  goes e s at kinds after next same vars stack store =
      subst (λ (ks : List StackKind). IsKept core quiet n method ks e (Some (Behind at))) same
      (record { store = store; state = s; next = next; frame = record { vars = vars; stack = stack } })

some-kinds : (kinds after : List StackKind) → Some kinds ≡ Some after → kinds ≡ after
some-kinds kinds after e = cc

module _ (core : Core) (quiet : Quietness core) (n : Naming) (method : Method) (table : Table) (main locked : Bool)
    (calls : Calls) (site : SiteId) where
  abbrev effects : CoreOp → State → Effects
  effects op s = op_effects (given_of core table main) locked site op s

  -- the frame and the store before an operation, with these kinds on the stack
  abbrev Before : List StackKind → State → Point → Type 0
  Before kinds s at = IsFrame core quiet n method kinds s at × IsStore core quiet at.store

  abbrev Kept : CoreOp → List StackKind → State → Point → Type 0
  Kept op after s at = IsKept core quiet n method after (effects op s) (evaluate_op core calls op at)

  -- one value more, and the rest as before
  one-more : (op : CoreOp) (kind : StackKind) (kinds after : List StackKind) (s : State) (at : Point) (called : Called)
      (x : Value) (store : Store) → (effects op s).next ≡ Some (pushed s called) → Some (kind ∷ kinds) ≡ Some after →
      IsPlace core quiet kind (name_of n called) x → IsFrame core quiet n method kinds s at → IsStore core quiet store →
      IsKept core quiet n method after (effects op s) (Some (Behind (point store at.vars (x ∷ at.stack))))
  one-more op kind kinds after s at called x store next kinded place frame stored =
      goes core quiet n method (effects op s) (pushed s called) (point store at.vars (x ∷ at.stack)) (kind ∷ kinds)
      after next (some-kinds (kind ∷ kinds) after kinded) frame.vars (place, frame.stack) stored

  push-kept : (v : VarId) (o : Option Kind) → variable_at method v ≡ o → (kinds after : List StackKind) (s : State)
      (at : Point) → after_push o kinds ≡ Some after → Before kinds s at → Kept (Push v) after s at
  push-kept v None there kinds after s at kinded given = absurd cc
  push-kept v (Some kind) there kinds after s at kinded given =
      one-more (Push v) (kind_of kind) kinds after s at (slice_index_or s.vars v.0 Unnamed)
      (slice_index_or at.vars v.0 Null) at.store refl kinded
      (variable_slot core quiet n method v.0 kind s.vars at.vars there given.0.vars) given.0 given.1

  new-kept : (c : ClassId) (kinds after : List StackKind) (s : State) (at : Point) →
      Some (Declared c ∷ kinds) ≡ Some after → Before kinds s at → Kept (New c) after s at
  new-kept c kinds after s at kinded given =
      one-more (New c) (Declared c) kinds after s at Owned (Ref (Fresh at.store.fresh)) (made_store at.store) refl
      kinded
      (fresh-place core quiet n (Declared c) at.store.fresh) given.0
      (record { all = given.1.all; unstored = given.1.unstored; stored = given.1.stored })

  dup-kept : (kinds after : List StackKind) (s : State) (at : Point) →
      kinds_after_op core method Dup kinds ≡ Some after → Before kinds s at → Kept Dup after s at
  dup-kept [] after s at kinded given = absurd cc
  dup-kept (kind ∷ kinds) after s at kinded given =
      one-more Dup kind (kind ∷ kinds) after s at (top s) (top_value at) at.store refl kinded
      (place_slot core quiet n 0 (kind ∷ kinds) s.stack at.stack kind refl given.0.stack) given.0 given.1

  drop-kept : (kinds after : List StackKind) (s : State) (at : Point) →
      kinds_after_op core method Drop kinds ≡ Some after → Before kinds s at → Kept Drop after s at
  drop-kept [] after s at kinded given = absurd cc
  drop-kept (kind ∷ kinds) after s at kinded given =
      goes core quiet n method (effects Drop s) (popped s 1) (point at.store at.vars (drop 1 at.stack)) kinds after refl
      (some-kinds kinds after kinded) given.0.vars
      (places_drop core quiet n 1 (kind ∷ kinds) s.stack at.stack given.0.stack) given.1

  -- so many values give way to one
  popping-kept : (op : CoreOp) (count : ℕ) (kind : StackKind) (kinds after : List StackKind) (s : State) (at : Point)
      (x : Value) → (effects op s).next ≡ Some (replaced s count Unnamed) →
      after_popping count kind kinds ≡ Some after → IsPlace core quiet kind (name_of n Unnamed) x → Before kinds s at →
      IsKept core quiet n method after (effects op s)
      (Some (Behind (point at.store at.vars (x ∷ drop count at.stack))))
  popping-kept op count kind kinds after s at x next kinded place given =
      goes core quiet n method (effects op s) (replaced s count Unnamed)
      (point at.store at.vars (x ∷ drop count at.stack)) (kind ∷ drop count kinds) after next
      (where-is (nat_le count (length kinds)) (kind ∷ drop count kinds) after kinded).same given.0.vars
      (place, places_drop core quiet n count kinds s.stack at.stack given.0.stack) given.1

  get-kept : (f : FieldId) (o : Option FieldCore) → field_at core f ≡ o → (kinds after : List StackKind) (s : State)
      (at : Point) → after_get o kinds ≡ Some after → Before kinds s at → Kept (Get f) after s at
  get-kept f None there kinds after s at kinded given = absurd cc
  get-kept f (Some field) there [] after s at kinded given = absurd cc
  get-kept f (Some field) there (kb ∷ rest) after s at kinded given =
      let is : IsWhere (is_base_of field kb) (kind_of field.kind ∷ rest) after =
      where-is (is_base_of field kb) (kind_of field.kind ∷ rest) after kinded in
      let base : IsPlace core quiet kb (name_of n (top s)) (top_value at) =
      place_slot core quiet n 0 (kb ∷ rest) s.stack at.stack kb refl given.0.stack in
      let below : ArePlaces core quiet n rest (drop 1 s.stack) (drop 1 at.stack) =
      places_drop core quiet n 1 (kb ∷ rest) s.stack at.stack given.0.stack in
      elim (base_of (top_value at)) as (λ (r : Result Object Why). base_of (top_value at) ≡ r →
      IsKept core quiet n method after (effects (Get f) s)
      (behind (on_base r (λ o. going (inner_of at) (frame_replaced (inner_of at).frame 1 (read core at.store o f)))))) [
        | Ok o ↦ λ e.
            goes core quiet n method (effects (Get f) s)
            (replaced s 1 (read_value (given_of core table main) (top s) f))
            (point at.store at.vars (read core at.store o f ∷ drop 1 at.stack)) (kind_of field.kind ∷ rest) after refl
            is.same given.0.vars (
              read-place core quiet n table main f field kb (top s) o at.store there (strong_base field kb is.holds)
                  (subst (λ (x : Value). IsPlace core quiet kb (name_of n (top s)) x)
                  (base-object (top_value at) o e) base) given.1,
              below,
            ) given.1
        | Err why ↦ λ e. tt
      ] refl

  put-kept : (f : FieldId) (o : Option FieldCore) → field_at core f ≡ o → (kinds after : List StackKind) (s : State)
      (at : Point) → after_put o kinds ≡ Some after → AreHushed core quiet n (effects (Put f) s).wobbly →
      Before kinds s at → Kept (Put f) after s at
  put-kept f None there kinds after s at kinded hushed given = absurd cc
  put-kept f (Some field) there [] after s at kinded hushed given = absurd cc
  put-kept f (Some field) there (kv ∷ []) after s at kinded hushed given = absurd cc
  put-kept f (Some field) there (kv ∷ kb ∷ rest) after s at kinded hushed given =
      let is : IsWhere (is_base_of field kb && fits field.kind kv) (kv ∷ rest) after =
      where-is (is_base_of field kb && fits field.kind kv) (kv ∷ rest) after kinded in
      let is_base : is_base_of field kb ≡ true =
      (and_parts (is_base_of field kb) (fits field.kind kv) is.holds).0 in
      let fit : fits field.kind kv ≡ true = (and_parts (is_base_of field kb) (fits field.kind kv) is.holds).1 in
      let value : IsPlace core quiet kv (name_of n (top s)) (top_value at) =
      place_slot core quiet n 0 (kv ∷ kb ∷ rest) s.stack at.stack kv refl given.0.stack in
      let base : IsPlace core quiet kb (name_of n (slot_of s 1)) (slice_index_or at.stack 1 Null) =
      place_slot core quiet n 1 (kv ∷ kb ∷ rest) s.stack at.stack kb refl given.0.stack in
      let below : ArePlaces core quiet n rest (drop 2 s.stack) (drop 2 at.stack) =
      places_drop core quiet n 2 (kv ∷ kb ∷ rest) s.stack at.stack given.0.stack in
      elim (base_of (slice_index_or at.stack 1 Null)) as (λ (r : Result Object Why).
      base_of (slice_index_or at.stack 1 Null) ≡ r →
      IsKept core quiet n method after (effects (Put f) s) (behind (on_base r (put (inner_of at) f)))) [
        | Ok o ↦ λ e.
            goes core quiet n method (effects (Put f) s) (replaced s 2 (top s))
            (point (written at.store o f (top_value at)) at.vars (top_value at ∷ drop 2 at.stack)) (kv ∷ rest) after
            refl
            is.same given.0.vars (value, below)
            (write-store core quiet n f field kb kv (slot_of s 1) (top s) o (top_value at) at.store there
            (strong_base field kb is_base) fit
            (subst (λ (x : Value). IsPlace core quiet kb (name_of n (slot_of s 1)) x)
            (base-object (slice_index_or at.stack 1 Null) o e) base) value given.1 hushed)
        | Err why ↦ λ e. tt
      ] refl

  set-kept : (v : VarId) (o : Option Kind) → variable_at method v ≡ o → (kinds after : List StackKind) (s : State)
      (at : Point) → after_set o kinds ≡ Some after → Before kinds s at → Kept (Set v) after s at
  set-kept v None there kinds after s at kinded given = absurd cc
  set-kept v (Some kind) there [] after s at kinded given = absurd cc
  set-kept v (Some kind) there (value ∷ rest) after s at kinded given =
      let is : IsWhere (fits kind value) (value ∷ rest) after = where-is (fits kind value) (value ∷ rest) after
      kinded in
      let place : IsPlace core quiet value (name_of n (top s)) (top_value at) =
      place_slot core quiet n 0 (value ∷ rest) s.stack at.stack value refl given.0.stack in
      goes core quiet n method (effects (Set v) s) (record { vars = slice_set s.vars v.0 (top s); stack = s.stack })
      (point at.store (slice_set at.vars v.0 (top_value at)) at.stack) (value ∷ rest) after refl is.same
      (variables_set core quiet n method v.0 kind s.vars at.vars (top s) (top_value at) there
      (of_kind core quiet value (kind_of kind) (name_of n (top s)) (top_value at)
      (strong_fitting kind value is.holds) place) given.0.vars) given.0.stack given.1

  return-kept : (kinds after : List StackKind) (s : State) (at : Point) →
      after_return method.result kinds ≡ Some after → Before kinds s at → Kept Ret after s at
  return-kept [] after s at kinded given = absurd cc
  return-kept (value ∷ rest) after s at kinded given =
      let is : IsWhere (fits method.result value) rest after = where-is (fits method.result value) rest after kinded in
      record {
        store = given.1;
        called = top s;
        result = refl;
        place =
            of_kind core quiet value (kind_of method.result) (name_of n (top s)) (top_value at)
            (strong_fitting method.result value is.holds)
            (place_slot core quiet n 0 (value ∷ rest) s.stack at.stack value refl given.0.stack);
      }

  pub op-kept : (op : CoreOp) (kinds after : List StackKind) (s : State) (at : Point) → called_by op ≡ [] →
      kinds_after_op core method op kinds ≡ Some after →
      AreHushed core quiet n (op_effects (given_of core table main) locked site op s).wobbly →
      IsFrame core quiet n method kinds s at → IsStore core quiet at.store →
      IsKept core quiet n method after (op_effects (given_of core table main) locked site op s)
      (evaluate_op core calls op at)
  op-kept (Push v) kinds after s at no_call kinded hushed frame stored =
      push-kept v (variable_at method v) refl kinds after s at kinded (frame, stored)
  op-kept (PushClass c) kinds after s at no_call kinded hushed frame stored =
      one-more (PushClass c) (ClassOf c) kinds after s at (Named (alone (Class c))) (Ref (Start (root_path
      (StartClass c))))
      at.store refl kinded (class-place core quiet n (ClassOf c) c) frame stored
  op-kept PushPrim kinds after s at no_call kinded hushed frame stored =
      one-more PushPrim Plain kinds after s at Unnamed PlainValue at.store refl kinded (plain-place core quiet n Plain)
      frame stored
  op-kept PushNull kinds after s at no_call kinded hushed frame stored =
      one-more PushNull NullKind kinds after s at Owned Null at.store refl kinded (null-place core quiet n NullKind)
      frame
      stored
  op-kept (New c) kinds after s at no_call kinded hushed frame stored =
      new-kept c kinds after s at kinded (frame, stored)
  op-kept Dup kinds after s at no_call kinded hushed frame stored =
      dup-kept kinds after s at kinded (frame, stored)
  op-kept Drop kinds after s at no_call kinded hushed frame stored =
      drop-kept kinds after s at kinded (frame, stored)
  op-kept (Get f) kinds after s at no_call kinded hushed frame stored =
      get-kept f (field_at core f) refl kinds after s at kinded (frame, stored)
  op-kept (Put f) kinds after s at no_call kinded hushed frame stored =
      put-kept f (field_at core f) refl kinds after s at kinded hushed (frame, stored)
  op-kept (Set v) kinds after s at no_call kinded hushed frame stored =
      set-kept v (variable_at method v) refl kinds after s at kinded (frame, stored)
  op-kept (Prim count) kinds after s at no_call kinded hushed frame stored =
      popping-kept (Prim count) count Plain kinds after s at PlainValue refl kinded (plain-place core quiet n Plain)
      (frame, stored)
  op-kept (Outside count) kinds after s at no_call kinded hushed frame stored =
      popping-kept (Outside count) count OpaqueKind kinds after s at Opaque refl kinded
      (opaque-place core quiet n OpaqueKind) (frame, stored)
  op-kept (Call m count) kinds after s at no_call kinded hushed frame stored = absurd cc
  op-kept (Unread m count) kinds after s at no_call kinded hushed frame stored = tt
  op-kept Throw kinds after s at no_call kinded hushed frame stored = tt
  op-kept Ret kinds after s at no_call kinded hushed frame stored =
      return-kept kinds after s at kinded (frame, stored)
