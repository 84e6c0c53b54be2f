-- What one step of a leg reads, by what a look says of it.
use Rattle.std.proofs.Common.{◌≡◌, refl, ℕ, Bool, cond, List, [], Option, None, Some, Result, Ok, Err}
use Rattle.std.proofs.Common.{IfOk, OnOk, sym, ap, subst, ◌∙◌}
use Rattle.std.specs.Borrow.{Bor}
use Rattle.std.specs.Option.{option_and_then}
use Rattle.racer_base.specs.declared.ids.FieldId.{FieldId}
use Rattle.racer_base.specs.declared.ids.Touch.TheVariants.{Write}
use Rattle.core_code.specs.declared.code.Op.{Op as CoreOp}
use Rattle.core_code.specs.declared.code.Op.TheVariants.{Get, Put}
use Rattle.core_code.specs.Core.{Core}
use Rattle.core_semantics.specs.declared.answer.Turn.{Turn}
use Rattle.core_semantics.specs.declared.look.Look.TheVariants as look
use Rattle.core_semantics.specs.declared.object.StartPath.{StartPath}
use Rattle.core_semantics.specs.declared.object.Value.{Value}
use Rattle.core_semantics.specs.declared.object.Value.TheVariants.{Plain, Opaque, Null, Object as Ref}
use Rattle.core_semantics.specs.Looks.{look_of, next_look, op_look, todo_look}
use Rattle.core_semantics.specs.Runs.{Access, access_of, frame_touch, innermost, next_of, op_touch, todo_touch}
use Rattle.core_semantics.specs.State.{Todo, Op, Choice, Loop, Sync, Unlock, Frame, State}
use Rattle.core_semantics.specs.Steps.{slot_of}
use Rattle.core_semantics.proofs.NextLooks.{turn_wanted, read_straight, other_straight}
use Rattle.core_semantics.specs.Advances.{IsAdvance, one_step}
use Rattle.core_ways.specs.Ends.{step_reads}
use Rattle.core_ways.specs.Gathered.{gathered}
use Rattle.core_ways.specs.Marks.{given_by, next_read}

-- what an access reads
abbrev read_by : Core → State → Option Access → List StartPath
read_by core s access = elim access [ None ↦ [] | Some touching ↦ given_by core s touching ]

put_reads : (core : Core) (s : State) (v : Value) (x : FieldId) → read_by core s (access_of v x Write) ≡ []
put_reads core s (Ref o) x = refl
put_reads core s Plain x = refl
put_reads core s Opaque x = refl
put_reads core s Null x = refl

op_reads : (core : Core) (s : State) (f : Frame) (op : CoreOp) → op_look op ≡ look.Other →
    read_by core s (op_touch f op) ≡ []
op_reads core s f (Get x) is = absurd cc
op_reads core s f (Put x) is = put_reads core s (slot_of f 1) x
op_reads core s f _ is = refl

todo_reads : (core : Core) (s : State) (f : Frame) (todo : Todo) → todo_look todo ≡ look.Other →
    read_by core s (todo_touch f todo) ≡ []
todo_reads core s f (Op place op) is = op_reads core s f op is
todo_reads core s f (Choice left right) is = refl
todo_reads core s f (Loop body) is = refl
todo_reads core s f (Sync lock body) is = refl
todo_reads core s f Unlock is = refl

next_reads : (core : Core) (s : State) (f : Frame) (next : Option Todo) → next_look next ≡ look.Other →
    read_by core s (option_and_then (todo_touch f) next) ≡ []
next_reads core s f None is = refl
next_reads core s f (Some todo) is = todo_reads core s f todo is

frame_reads : (core : Core) (s : State) (frame : Option Frame) →
    next_look (option_and_then next_of frame) ≡ look.Other → read_by core s (option_and_then frame_touch frame) ≡ []
frame_reads core s None is = refl
frame_reads core s (Some f) is = next_reads core s f (next_of f) is

-- a step that is no turn and no read reads nothing
reads_none : (core : Core) (s : State) (t : ℕ) → look_of s t ≡ look.Other → next_read core s t ≡ []
reads_none core s t is = frame_reads core s (innermost s t) is

pub turned_reads : (core : Core) (t : ℕ) (s : State) (objects : List StartPath) → look_of s t ≡ look.Turn →
    objects ≡ gathered objects (step_reads core s t)
turned_reads core t s objects looks =
    ap (λ (b : Bool). gathered objects (cond b [] (next_read core s t))) (sym (turn_wanted s t looks))

pub read_reads : {X E : Type 0} (core : Core) (t : ℕ) (old now : State) (objects grown : List StartPath)
    (r : Result X E) → now ≡ old → look_of old t ≡ look.Read →
    OnOk r (grown ≡ gathered objects (next_read core now t)) → OnOk r (grown ≡ gathered objects (step_reads core old t))
read_reads core t old now objects grown (Ok x) same looks h =
    h
    ∙ ap (λ (s : State). gathered objects (next_read core s t)) same
    ∙ ap (λ (b : Bool). gathered objects (cond b [] (next_read core old t))) (sym (read_straight old t looks))
read_reads core t old now objects grown (Err e) same looks h = tt

pub other_reads : (core : Core) (t : ℕ) (s : State) (objects : List StartPath) → look_of s t ≡ look.Other →
    objects ≡ gathered objects (step_reads core s t)
other_reads core t s objects looks =
    ap (gathered objects) (sym (reads_none core s t looks))
    ∙ ap (λ (b : Bool). gathered objects (cond b [] (next_read core s t))) (sym (other_straight s t looks))

on_ok : {X E P : Type 0} (r : Result X E) → P → OnOk r P
on_ok (Ok x) p = p
on_ok (Err e) p = tt

-- a step that is made behind what it reads is gathered
pub same_step : {E : Type 0} (core : Core) (t : ℕ) (turns : List Turn) (old now new : State)
    (r : Result (Option (Bor (List Turn))) E) → now ≡ old →
    IfOk r (λ rest. IsAdvance (one_step core t turns now) now new rest) →
    IfOk r (λ rest. IsAdvance (one_step core t turns old) old new rest)
same_step core t turns old now new r same h =
    subst (λ (s : State). IfOk r (λ rest. IsAdvance (one_step core t turns s) s new rest)) same h

pub same_reads : {X E : Type 0} (core : Core) (t : ℕ) (s : State) (objects grown : List StartPath) (r : Result X E) →
    grown ≡ gathered objects (step_reads core s t) → OnOk r (grown ≡ gathered objects (step_reads core s t))
same_reads core t s objects grown r h = on_ok r h
