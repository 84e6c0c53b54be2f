-- What the reads of a run give leads to objects of classes of the program.
use Rattle.std.proofs.Common.{◌≡◌, ℕ, zero, suc, true, false, cond, List, [], ◌∷◌, ◌++◌, Option, None, Some}
use Rattle.std.proofs.Common.{is_some, slice_get, refl}
use Rattle.std.specs.Option.{option_and_then}
use Rattle.racer_base.specs.declared.ids.FieldId.{FieldId}
use Rattle.racer_base.specs.declared.ids.Place.{Place}
use Rattle.racer_base.specs.declared.ids.Touch.TheVariants.{Read, Write}
use Rattle.core_code.specs.declared.code.Op.{Op as CoreOp}
use Rattle.core_code.specs.declared.code.Op.TheVariants.{Push, PushClass, PushPrim, PushNull, New, Dup, Drop, Get, Put}
use Rattle.core_code.specs.declared.code.Op.TheVariants.{Set, Prim, Outside, Call, Unread, Ret, Throw}
use Rattle.core_code.specs.declared.parts.FieldCore.{FieldCore}
use Rattle.core_code.specs.Core.{Core, Method}
use Rattle.core_code.specs.KindCheck.{field_at, is_base_of}
use Rattle.core_code.specs.Kinds.{StackKind, kind_of}
use Rattle.core_semantics.specs.declared.answer.Turn.{Turn}
use Rattle.core_semantics.specs.declared.answer.Turn.TheVariants.{Right}
use Rattle.core_semantics.specs.declared.object.Object.TheVariants.{Start as StartOf, Fresh}
use Rattle.core_semantics.specs.declared.object.StartPath.{StartPath}
use Rattle.core_semantics.specs.declared.object.Value.{Value}
use Rattle.core_semantics.specs.declared.object.Value.TheVariants.{Plain, Opaque, Null, Object as Ref}
use Rattle.core_semantics.specs.Legs.{Leg, Ran, Came, Halted, runs}
use Rattle.core_semantics.specs.Runs.{Access as Touching, access_of, frame_touch, op_touch, todo_touch, wants_turn}
use Rattle.core_semantics.specs.State.{Frame, State, Todo, Op, Choice, Loop, Sync, Unlock, thread_of}
use Rattle.core_semantics.specs.Steps.{Next, Goes, Sticks, Waits, Ends, read, slot_of, step, top}
use Rattle.core_ways.specs.Marks.{given_by, next_read, paths_in, reads, reads_of_legs, reads_on}
use Rattle.core_semantics_kinds.specs.Kinding.{AreFrames, CanDo, StepKeeps, IsState, Keeps, RanTo}
use Rattle.core_semantics_kinds.specs.ObjectKinds.{AreHeld, AreStored, IsReached, IsValue, object_kinds}
use Rattle.core_semantics_kinds.specs.Reached.{Roots, reached_from}
use Rattle.core_semantics_kinds.proofs.Bases.{HasBase, get-base}
use Rattle.core_semantics_kinds.proofs.KindValues.{reached-some}
use Rattle.core_semantics_kinds.proofs.KindedRuns.{run-kept, step-kept, thread-frames}
use Rattle.core_semantics_kinds.proofs.Reading.{read-value}

-- a start path with a field that leads to an object of a class of the program
pub record IsRightPath (core : Core) (roots : Roots) (p : StartPath) : Type 0 where
  pub leads : is_some (reached_from core roots p) ≡ true
  pub field : FieldId
  pub fields : List FieldId
  pub has : p.fields ≡ field ∷ fields

abbrev pub AreRightPaths : Core → Roots → List StartPath → Type 0
AreRightPaths core roots [] = Unit {0}
AreRightPaths core roots (p ∷ ps) = IsRightPath core roots p × AreRightPaths core roots ps

abbrev pub given : Core → State → Option Touching → List StartPath
given core s o = elim o [ None ↦ [] | Some touching ↦ given_by core s touching ]

module _ (core : Core) (roots : Roots) where
  paths-append : (ps qs : List StartPath) → AreRightPaths core roots ps → AreRightPaths core roots qs →
      AreRightPaths core roots (ps ++ qs)
  paths-append [] qs a b = b
  paths-append (p ∷ ps) qs a b = (a.0, paths-append ps qs a.1 b)

  -- ---- what a value is read from

  path-right : (k : StackKind) (p : StartPath) (fields : List FieldId) → p.fields ≡ fields →
      IsReached k (reached_from core roots p) →
      AreRightPaths core roots (elim fields as (λ _. List StartPath) [ [] ↦ [] | ◌∷◌ f fs ↦ p ∷ [] ])
  path-right k p [] is h = tt
  path-right k p (f ∷ fs) is h =
      (record { leads = reached-some k (reached_from core roots p) h; field = f; fields = fs; has = is }, tt)

  paths-right : (k : StackKind) (v : Value) → IsValue core roots k v → AreRightPaths core roots (paths_in v)
  paths-right k Plain h = tt
  paths-right k Opaque h = tt
  paths-right k Null h = tt
  paths-right k (Ref (Fresh n)) h = tt
  paths-right k (Ref (StartOf p)) h = path-right k p p.fields refl h

  -- ---- what the next step reads

  get-right : (s : State) (f : FieldId) (field : FieldCore) (base : StackKind) (v : Value) →
      AreStored core roots s.store → field_at core f ≡ Some field → is_base_of field base ≡ true →
      IsValue core roots base v → AreRightPaths core roots (given core s (access_of v f Read))
  get-right s f field base Plain stored there is h = tt
  get-right s f field base Opaque stored there is h = tt
  get-right s f field base Null stored there is h = tt
  get-right s f field base (Ref o) stored there is h =
      paths-right (kind_of field.kind) (read core s.store o f)
      (read-value core roots s.store field base o f stored there is h)

  put-right : (s : State) (f : FieldId) (v : Value) → AreRightPaths core roots (given core s (access_of v f Write))
  put-right s f Plain = tt
  put-right s f Opaque = tt
  put-right s f Null = tt
  put-right s f (Ref o) = tt

  abbrev CanObjectsDo : Method → List Todo → List StackKind → Type 0
  CanObjectsDo method todo ks = CanDo core (object_kinds core roots) method todo ks

  op-right : (s : State) (frame : Frame) (method : Method) (place : Place) (op : CoreOp) (rest : List Todo)
      (ks : List StackKind) → AreStored core roots s.store → AreHeld core roots method ks frame.vars frame.stack →
      CanObjectsDo method (Op place op ∷ rest) ks → AreRightPaths core roots (given core s (op_touch frame op))
  op-right s frame method place (Get f) rest ks stored held h =
      let b : HasBase core roots f (top frame) =
      get-base core roots f (field_at core f) h.from h.after frame.stack refl h.does.kinded
      (h.weaker.so frame.vars frame.stack held).stack in
      get-right s f b.field b.base (top frame) stored b.there b.is b.value
  op-right s frame method place (Put f) rest ks stored held h = put-right s f (slot_of frame 1)
  op-right s frame method place (Push v) rest ks stored held h = tt
  op-right s frame method place (PushClass c) rest ks stored held h = tt
  op-right s frame method place PushPrim rest ks stored held h = tt
  op-right s frame method place PushNull rest ks stored held h = tt
  op-right s frame method place (New c) rest ks stored held h = tt
  op-right s frame method place Dup rest ks stored held h = tt
  op-right s frame method place Drop rest ks stored held h = tt
  op-right s frame method place (Set v) rest ks stored held h = tt
  op-right s frame method place (Prim n) rest ks stored held h = tt
  op-right s frame method place (Outside n) rest ks stored held h = tt
  op-right s frame method place (Call m n) rest ks stored held h = tt
  op-right s frame method place (Unread m n) rest ks stored held h = tt
  op-right s frame method place Ret rest ks stored held h = tt
  op-right s frame method place Throw rest ks stored held h = tt

  todo-right : (s : State) (frame : Frame) (method : Method) (todo : List Todo) (ks : List StackKind) →
      AreStored core roots s.store → AreHeld core roots method ks frame.vars frame.stack →
      CanObjectsDo method todo ks →
      AreRightPaths core roots (given core s (option_and_then (todo_touch frame) (slice_get todo 0)))
  todo-right s frame method [] ks stored held h = tt
  todo-right s frame method (Op place op ∷ rest) ks stored held h =
      op-right s frame method place op rest ks stored held h
  todo-right s frame method (Choice left right ∷ rest) ks stored held h = tt
  todo-right s frame method (Loop body ∷ rest) ks stored held h = tt
  todo-right s frame method (Sync lock body ∷ rest) ks stored held h = tt
  todo-right s frame method (Unlock ∷ rest) ks stored held h = tt

  frames-right : (s : State) (frames : List Frame) → AreStored core roots s.store →
      AreFrames core (object_kinds core roots) frames →
      AreRightPaths core roots (given core s (option_and_then frame_touch (slice_get frames 0)))
  frames-right s [] stored h = tt
  frames-right s (frame ∷ callers) stored h =
      todo-right s frame h.0.method frame.todo h.0.known stored h.0.so h.0.todo

  abbrev IsRightState : State → Type 0
  IsRightState s = IsState core (object_kinds core roots) s

  -- what the next step of a thread reads is right
  next-right : (s : State) (t : ℕ) → IsRightState s → AreRightPaths core roots (next_read core s t)
  next-right s t is = frames-right s (thread_of s t).frames is.stored (thread-frames (object_kinds core roots) s t is)

-- ---- runs

module _ {core : Core} {roots : Roots} (keeps : Keeps core (object_kinds core roots)) where
  abbrev ReadRight : ℕ → ℕ → Type 0
  ReadRight t n =
      (turns : List Turn) (s : State) → IsState core (object_kinds core roots) s →
      AreRightPaths core roots (reads core t n turns s)

  on-right : (t n : ℕ) (turns : List Turn) (next : Next State) → ReadRight t n →
      StepKeeps core (object_kinds core roots) (IsState core (object_kinds core roots)) next →
      AreRightPaths core roots (reads_on (reads core t n turns) next)
  on-right t n turns (Goes s) ih is = ih turns s is
  on-right t n turns (Sticks why) ih is = tt
  on-right t n turns (Waits monitor) ih is = tt
  on-right t n turns Ends ih is = tt

  taking-right : (t n : ℕ) (turns : List Turn) (s : State) → ReadRight t n → IsState core (object_kinds core roots) s →
      AreRightPaths core roots (elim turns as (λ _. List StartPath) [
        | [] ↦ []
        | ◌∷◌ turn rest ↦ reads_on (reads core t n rest) (step core s t turn)
      ])
  taking-right t n [] s ih is = tt
  taking-right t n (turn ∷ rest) s ih is = on-right t n rest (step core s t turn) ih (step-kept keeps s t turn is)

  pub reads-right : (t n : ℕ) → ReadRight t n
  reads-right t zero = λ turns s is. tt
  reads-right t (suc n) = λ turns s is.
      elim (wants_turn s t) as (λ b. AreRightPaths core roots (cond b
      (elim turns as (λ _. List StartPath) [
        | [] ↦ []
        | ◌∷◌ turn rest ↦ reads_on (reads core t n rest) (step core s t turn)
      ]) (next_read core s t ++ reads_on (reads core t n turns) (step core s t Right)))) [
        | true ↦ taking-right t n turns s (reads-right t n) is
        | false ↦
            paths-append core roots (next_read core s t) (reads_on (reads core t n turns) (step core s t Right))
            (next-right core roots s t is)
            (on-right t n turns (step core s t Right) (reads-right t n) (step-kept keeps s t Right is))
      ]

  ran-right : (legs : List Leg) (r : Ran) → RanTo core (object_kinds core roots) r →
      ((to : State) → IsState core (object_kinds core roots) to →
      AreRightPaths core roots (reads_of_legs core legs to)) →
      AreRightPaths core roots (elim r as (λ _. List StartPath) [
        | Came to left ↦ reads_of_legs core legs to
        | Halted halt at steps ↦ []
      ])
  ran-right legs (Came to left) h rest = rest to h
  ran-right legs (Halted halt at steps) h rest = tt

  pub legs-right : (legs : List Leg) (s : State) → IsState core (object_kinds core roots) s →
      AreRightPaths core roots (reads_of_legs core legs s)
  legs-right [] s is = tt
  legs-right (leg ∷ legs) s is =
      paths-append core roots (reads core leg.thread leg.steps leg.turns s) _
      (reads-right leg.thread leg.steps leg.turns s is)
      (ran-right legs (runs core leg.thread leg.steps leg.turns s) (run-kept keeps leg.thread leg.steps leg.turns s is)
      (legs-right legs))
