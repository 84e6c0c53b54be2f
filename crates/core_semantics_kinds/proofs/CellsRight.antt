-- The cells that the steps of a run touch are cells of their objects.
use Rattle.std.proofs.Common.{◌≡◌, ℕ, Bool, true, false, List, [], ◌∷◌, Option, None, Some}
use Rattle.std.proofs.Common.{IsTrue, slice_get, refl, ap, subst, ◌∙◌}
use Rattle.std.specs.Option.{option_and_then, option_map}
use Rattle.racer_base.specs.declared.ids.FieldId.{FieldId}
use Rattle.racer_base.specs.declared.ids.MethodId.{MethodId}
use Rattle.racer_base.specs.declared.ids.Place.{Place}
use Rattle.racer_base.specs.declared.ids.Touch.{Touch}
use Rattle.racer_base.specs.declared.ids.Touch.TheVariants.{Read, Write}
use Rattle.core_code.specs.declared.code.Op.{Op as CoreOp}
use Rattle.core_code.specs.declared.code.Op.TheVariants.{Push, PushClass, PushPrim, PushNull, New, Dup, Drop, Get, Put}
use Rattle.core_code.specs.declared.code.Op.TheVariants.{Set, Prim, Outside, Call, Unread, Ret, Throw}
use Rattle.core_code.specs.declared.parts.FieldCore.{FieldCore}
use Rattle.core_code.specs.declared.program.Program.{Program}
use Rattle.core_code.specs.Calls.{is_analysed, method_at}
use Rattle.core_code.specs.Core.{Core, Method}
use Rattle.core_code.specs.KindCheck.{field_at, is_base_of}
use Rattle.core_code.specs.Kinds.{StackKind}
use Rattle.core_code.specs.Program.{core as core_of}
use Rattle.core_semantics.specs.declared.object.Object.{Object}
use Rattle.core_semantics.specs.declared.object.Object.TheVariants.{Start as StartOf, Fresh}
use Rattle.core_semantics.specs.declared.object.Start.{Start}
use Rattle.core_semantics.specs.declared.object.StartPath.{StartPath}
use Rattle.core_semantics.specs.declared.object.Value.{Value}
use Rattle.core_semantics.specs.declared.object.Value.TheVariants.{Plain, Opaque, Null, Object as Ref}
use Rattle.core_semantics.specs.Legs.{Leg, run}
use Rattle.core_semantics.specs.Runs.{Access as Touching, access_of, begun, frame_touch, next_touch, op_touch}
use Rattle.core_semantics.specs.Runs.{todo_touch}
use Rattle.core_semantics.specs.State.{Frame, State, Todo, Op, Choice, Loop, Sync, Unlock, thread_of}
use Rattle.core_semantics.specs.Steps.{slot_of, top}
use Rattle.core_semantics_kinds.specs.Kinding.{AreFrames, CanDo, IsState}
use Rattle.core_semantics_kinds.specs.ObjectKinds.{AreHeld, IsReached, IsValue, object_kinds}
use Rattle.core_semantics_kinds.specs.Reached.{Reached, Roots, has_cell, is_cell, reached_from, roots_of}
use Rattle.core_semantics_kinds.proofs.Bases.{HasBase, HasCell, get-base, put-base, reached-cell}
use Rattle.core_semantics_kinds.proofs.Beginnings.{run-state}
use Rattle.core_semantics_kinds.proofs.KindedRuns.{thread-frames}

module _ (core : Core) (roots : Roots) where
  abbrev by_cell : Core → FieldId → Option Reached → Bool
  by_cell core x r =
      elim (option_and_then (λ y. option_map (λ field. has_cell field y) (field_at core x)) r) [
        | None ↦ false
        | Some is ↦ is
      ]

  abbrev by_field : Reached → Option FieldCore → Bool
  by_field y o = elim (option_map (λ field. has_cell field y) o) [ None ↦ false | Some is ↦ is ]

  cell-base : (q : StartPath) (x : FieldId) (field : FieldCore) (base : StackKind) → field_at core x ≡ Some field →
      is_base_of field base ≡ true → IsReached base (reached_from core roots q) → is_cell core roots q x ≡ true
  cell-base q x field base there is h =
      let c : HasCell field (reached_from core roots q) = reached-cell field base (reached_from core roots q) is h in
      ap (by_cell core x) c.is ∙ ap (by_field c.reached) there ∙ c.cell

  abbrev path_in : StartPath → Object → StartPath
  path_in p (StartOf q) = q
  path_in p (Fresh n) = p

  abbrev is_start : Object → Bool
  is_start (StartOf q) = true
  is_start (Fresh n) = false

  abbrev starts : Option Touching → Bool
  starts o = elim o [ None ↦ false | Some touching ↦ is_start touching.0 ]

  abbrev path_of : StartPath → Option Touching → StartPath
  path_of p o = elim o [ None ↦ p | Some touching ↦ path_in p touching.0 ]

  abbrev field_in : FieldId → Option Touching → FieldId
  field_in f o = elim o [ None ↦ f | Some touching ↦ touching.1 ]

  access-cell : (v : Value) (f : FieldId) (k : Touch) (field : FieldCore) (base : StackKind) →
      field_at core f ≡ Some field → is_base_of field base ≡ true → IsValue core roots base v →
      (q : StartPath) (x : FieldId) (kind : Touch) →
      access_of v f k ≡ Some (StartOf q, x, kind) → is_cell core roots q x ≡ true
  access-cell Plain f k field base there is h q x kind e = absurd cc
  access-cell Opaque f k field base there is h q x kind e = absurd cc
  access-cell Null f k field base there is h q x kind e = absurd cc
  access-cell (Ref (Fresh n)) f k field base there is h q x kind e =
      let wrong : false ≡ true = ap starts e in absurd cc
  access-cell (Ref (StartOf p)) f k field base there is h q x kind e =
      let path : p ≡ q = ap (path_of p) e in
      let same : f ≡ x = ap (field_in f) e in
      subst (λ (y : FieldId). is_cell core roots q y ≡ true) same
      (subst (λ (r : StartPath). is_cell core roots r f ≡ true) path (cell-base p f field base there is h))

  abbrev AreCells : Option Touching → Type 0
  AreCells o =
      (q : StartPath) (x : FieldId) (kind : Touch) → o ≡ Some (StartOf q, x, kind) → is_cell core roots q x ≡ true

  op-cells : (frame : Frame) (method : Method) (place : Place) (op : CoreOp) (rest : List Todo) (ks : List StackKind) →
      AreHeld core roots method ks frame.vars frame.stack →
      CanDo core (object_kinds core roots) method (Op place op ∷ rest) ks → AreCells (op_touch frame op)
  op-cells frame method place (Get f) rest ks held h = λ q x kind e.
      let b : HasBase core roots f (top frame) =
      get-base core roots f (field_at core f) h.from h.after frame.stack refl h.does.kinded
      (h.weaker.so frame.vars frame.stack held).stack in
      access-cell (top frame) f Read b.field b.base b.there b.is b.value q x kind e
  op-cells frame method place (Put f) rest ks held h = λ q x kind e.
      let b : HasBase core roots f (slot_of frame 1) =
      put-base core roots f (field_at core f) h.from h.after frame.stack refl h.does.kinded
      (h.weaker.so frame.vars frame.stack held).stack in
      access-cell (slot_of frame 1) f Write b.field b.base b.there b.is b.value q x kind e
  op-cells frame method place (Push v) rest ks held h = λ q x kind e. absurd cc
  op-cells frame method place (PushClass c) rest ks held h = λ q x kind e. absurd cc
  op-cells frame method place PushPrim rest ks held h = λ q x kind e. absurd cc
  op-cells frame method place PushNull rest ks held h = λ q x kind e. absurd cc
  op-cells frame method place (New c) rest ks held h = λ q x kind e. absurd cc
  op-cells frame method place Dup rest ks held h = λ q x kind e. absurd cc
  op-cells frame method place Drop rest ks held h = λ q x kind e. absurd cc
  op-cells frame method place (Set v) rest ks held h = λ q x kind e. absurd cc
  op-cells frame method place (Prim n) rest ks held h = λ q x kind e. absurd cc
  op-cells frame method place (Outside n) rest ks held h = λ q x kind e. absurd cc
  op-cells frame method place (Call m n) rest ks held h = λ q x kind e. absurd cc
  op-cells frame method place (Unread m n) rest ks held h = λ q x kind e. absurd cc
  op-cells frame method place Ret rest ks held h = λ q x kind e. absurd cc
  op-cells frame method place Throw rest ks held h = λ q x kind e. absurd cc

  todo-cells : (frame : Frame) (method : Method) (todo : List Todo) (ks : List StackKind) →
      AreHeld core roots method ks frame.vars frame.stack → CanDo core (object_kinds core roots) method todo ks →
      AreCells (option_and_then (todo_touch frame) (slice_get todo 0))
  todo-cells frame method [] ks held h = λ q x kind e. absurd cc
  todo-cells frame method (Op place op ∷ rest) ks held h = op-cells frame method place op rest ks held h
  todo-cells frame method (Choice left right ∷ rest) ks held h = λ q x kind e. absurd cc
  todo-cells frame method (Loop body ∷ rest) ks held h = λ q x kind e. absurd cc
  todo-cells frame method (Sync lock body ∷ rest) ks held h = λ q x kind e. absurd cc
  todo-cells frame method (Unlock ∷ rest) ks held h = λ q x kind e. absurd cc

  frames-cells : (frames : List Frame) → AreFrames core (object_kinds core roots) frames →
      AreCells (option_and_then frame_touch (slice_get frames 0))
  frames-cells [] h = λ q x kind e. absurd cc
  frames-cells (frame ∷ callers) h = todo-cells frame h.0.method frame.todo h.0.known h.0.so h.0.todo

  touched-cells : (s : State) (t : ℕ) → IsState core (object_kinds core roots) s → AreCells (next_touch s t)
  touched-cells s t is = frames-cells (thread_of s t).frames (thread-frames (object_kinds core roots) s t is)

-- ---- runs of two entries

pub cells-right : (p : Program) (m1 m2 : MethodId) (f g : Method) → method_at (core_of p) m1 ≡ Some f →
    method_at (core_of p) m2 ≡ Some g → IsTrue (is_analysed (core_of p) m1) → IsTrue (is_analysed (core_of p) m2) →
    f.class ≡ g.class → (start : Start) (legs : List Leg) (s : State) →
    run (core_of p) legs (begun (core_of p) m1 m2 start) ≡ Some s →
    (t : ℕ) (q : StartPath) (x : FieldId) (kind : Touch) → next_touch s t ≡ Some (StartOf q, x, kind) →
    IsTrue (is_cell (core_of p) (roots_of f g) q x)
cells-right p m1 m2 f g is_f is_g an_f an_g same start legs s came t q x kind e =
    touched-cells (core_of p) (roots_of f g) s t
    (run-state p m1 m2 f g is_f is_g an_f an_g same start legs s came) q x kind e
