-- One more step of a walk.
use Rattle.std.proofs.Common.{◌≡◌, ℕ, ◌+◌, Bool, true, false, cond, List, [], ◌++◌, Option, None, Some, refl, sym, ap}
use Rattle.std.proofs.Common.{subst, ◌∙◌}
use Rattle.std.proofs.lemmas.List.{append-nil}
use Rattle.std.specs.BTreeSet.{BTreeSet}
use Rattle.std.specs.Option.{option_and_then}
use Rattle.racer_base.specs.declared.ids.FieldId.{FieldId}
use Rattle.racer_base.specs.declared.ids.Touch.TheVariants.{Read, Write}
use Rattle.core_code.specs.Core.{Core}
use Rattle.core_semantics.specs.declared.answer.Turn.{Turn}
use Rattle.core_semantics.specs.declared.changes.FieldChange.{FieldChange}
use Rattle.core_semantics.specs.declared.object.Start.TheVariants.{All}
use Rattle.core_semantics.specs.declared.object.StartPath.{StartPath}
use Rattle.core_semantics.specs.declared.object.Value.{Value}
use Rattle.core_semantics.specs.Changes.{Change, Spot, field_change, step_change, step_looks}
use Rattle.core_semantics.specs.Runs.{Access, begun, frame_touch, innermost, is_turn, next_of, next_touch, next_value}
use Rattle.core_semantics.specs.Runs.{todo_touch, value_read, wants_turn}
use Rattle.core_semantics.specs.State.{Frame, State, Todo, Op, Choice, Loop, Sync, Unlock}
use Rattle.core_semantics.specs.View.{state_of}
use Rattle.core_semantics.specs.Advances.{Going, one_step}
use Rattle.core_ways.specs.Ends.{leg_reads, reads_behind, step_reads}
use Rattle.core_ways.specs.Gathered.{gathered, paths_of}
use Rattle.core_ways.specs.Marks.{given_by, next_read}
use Rattle.core_ways.proofs.Gathering.{gathered-append}
use Rattle.witness_build_apart_laws.specs.Goes.{goes_behind, leg_goes}
use Rattle.witness_build_apart_laws.specs.Looks.{leg_looks, looks_behind}
use Rattle.witness_build_apart_laws.specs.Stores.{leg_stores, noted, stored_both, stores_behind}
use Rattle.witness_build_apart_laws.proofs.Prefixes.{goes-on, looks-go-on, reads-go-on, stores-go-on}
use Rattle.witness_build_walks.specs.declared.walk.Walk.{Walk}
use Rattle.witness_build_walks.specs.Walks.{AreKept, IsNoted, IsStopped, IsWalk, entry_state, fields_of, is_loud_behind}
use Rattle.witness_build_walks.specs.Walks.{listed}
use Rattle.witness_build_walks.specs.Walks.{written}
use Rattle.witness_build_walks.proofs.KeptFields.{fields-both, first-kept, none-kept, noted-on, same-kept}

-- ---- what a step reads

abbrev turns_at : Option Todo → Bool
turns_at o = elim o as (λ _. Bool) [ None ↦ false | Some todo ↦ is_turn todo ]

todo-touches : (f : Frame) (o : Option Todo) → turns_at o ≡ true → option_and_then (todo_touch f) o ≡ None
todo-touches f None e = refl
todo-touches f (Some (Op place op)) e = absurd cc
todo-touches f (Some (Choice left right)) e = refl
todo-touches f (Some (Loop body)) e = refl
todo-touches f (Some (Sync lock body)) e = absurd cc
todo-touches f (Some Unlock) e = absurd cc

-- a choice or a loop touches nothing
turn-touches : (o : Option Frame) → turns_at (option_and_then next_of o) ≡ true → option_and_then frame_touch o ≡ None
turn-touches None e = refl
turn-touches (Some f) e = todo-touches f (next_of f) e

value-reads : (core : Core) (s : State) (touch : Option Access) →
    (elim touch as (λ _. List StartPath) [ None ↦ [] | Some touching ↦ given_by core s touching ])
    ≡ paths_of (value_read core s.store touch)
value-reads core s None = refl
value-reads core s (Some (o, f, Read)) = refl
value-reads core s (Some (o, f, Write)) = refl

value-is-read : (core : Core) (s : State) (t : ℕ) → step_reads core s t ≡ paths_of (next_value core s t)
value-is-read core s t =
    elim (wants_turn s t) as (λ b. wants_turn s t ≡ b →
    cond b [] (next_read core s t) ≡ paths_of (next_value core s t)) [
      | true ↦ λ e.
          sym (ap (λ (touch : Option Access). paths_of (value_read core s.store touch))
          (turn-touches (innermost s t) e))
      | false ↦ λ e. value-reads core s (next_touch s t)
    ] refl

-- ---- the step is made

module _ (core : Core) (old : Walk) (w : IsWalk core old) (to : State) (used : List Turn)
    (step : one_step core old.thread used (state_of old.machine) ≡ Some (to, [])) where
  abbrev t : ℕ
  t = old.thread

  abbrev start : State
  start = entry_state core old

  abbrev here : State
  here = state_of old.machine

  pub goes-further : leg_goes core t (old.steps + 1) (old.turns.items ++ used) start ≡ Some (to, [])
  goes-further =
      goes-on core t old.steps 1 old.turns.items used start here [] w.goes
      ∙ ap (λ (o : Option Going). goes_behind (leg_goes core t 0) o) step

  pub reads-further : leg_reads core t (old.steps + 1) (old.turns.items ++ used) start
      ≡ leg_reads core t old.steps old.turns.items start ++ step_reads core here t
  reads-further =
      reads-go-on core t old.steps 1 old.turns.items used start here [] w.goes
      ∙ ap (λ (o : Option Going). leg_reads core t old.steps old.turns.items start
      ++ (step_reads core here t ++ reads_behind (leg_reads core t 0) o)) step
      ∙ ap (λ (xs : List StartPath). leg_reads core t old.steps old.turns.items start ++ xs)
      (append-nil (step_reads core here t))

  pub looks-further : leg_looks core t (old.steps + 1) (old.turns.items ++ used) start
      ≡ leg_looks core t old.steps old.turns.items start ++ step_looks core here t
  looks-further =
      looks-go-on core t old.steps 1 old.turns.items used start here [] w.goes
      ∙ ap (λ (o : Option Going). leg_looks core t old.steps old.turns.items start
      ++ (step_looks core here t ++ looks_behind (leg_looks core t 0) o)) step
      ∙ ap (λ (xs : List Spot). leg_looks core t old.steps old.turns.items start ++ xs)
      (append-nil (step_looks core here t))

  pub stores-further : leg_stores core t (old.steps + 1) (old.turns.items ++ used) start
      ≡ stored_both (leg_stores core t old.steps old.turns.items start) (noted (step_change core here t) (Some []))
  stores-further =
      stores-go-on core t old.steps 1 old.turns.items used start here [] w.goes
      ∙ ap (λ (o : Option Going). stored_both (leg_stores core t old.steps old.turns.items start)
      (noted (step_change core here t) (stores_behind (leg_stores core t 0) o))) step

-- the same walk but for its place
pub record IsMoved (old new : Walk) (steps : ℕ) (turns : List Turn) : Type 0 where
  pub thread : new.thread ≡ old.thread
  pub method : new.method ≡ old.method
  pub steps_are : new.steps ≡ steps
  pub turns_are : new.turns.items ≡ turns

-- what is so of the old walk's thread and method is so of the new one's
moved : {X : Type 0} (core : Core) (old new : Walk) (n : ℕ) (turns : List Turn) →
    (what : ℕ → ℕ → List Turn → State → X) → IsMoved old new n turns →
    what new.thread new.steps new.turns.items (entry_state core new) ≡ what old.thread n turns (entry_state core old)
moved core old new n turns what m =
    (λ i. what (m.thread i) (m.steps_are i) (m.turns_are i) (begun core (m.method i) (m.method i) All))

-- what was noted of a step
pub record IsNotedStep (core : Core) (old new : Walk) (look : Option FieldId) (change : FieldChange)
    (value : Option Value) : Type 0 where
  pub value_is : value ≡ next_value core (state_of old.machine) old.thread
  pub given : new.given ≡ gathered old.given (paths_of value)
  pub look_is : listed look ≡ fields_of (step_looks core (state_of old.machine) old.thread)
  pub reads : (fields : List FieldId) → AreKept old.reads fields → AreKept new.reads (fields ++ listed look)
  pub change_is : change ≡ field_change (step_change core (state_of old.machine) old.thread)
  pub writes : (fields : List FieldId) → AreKept old.writes fields → AreKept new.writes (fields ++ written change)
  pub loud : new.is_loud ≡ is_loud_behind old.is_loud change

pub went-on : (core : Core) (old new : Walk) (used : List Turn) (look : Option FieldId) (change : FieldChange)
    (value : Option Value) → IsWalk core old → IsMoved old new (old.steps + 1) (old.turns.items ++ used) →
    one_step core old.thread used (state_of old.machine) ≡ Some (state_of new.machine, []) →
    IsNotedStep core old new look change value → IsWalk core new
went-on core old new used look change value w m step seen =
    let to = state_of new.machine in
    let here = state_of old.machine in
    let start = entry_state core old in
    let t = old.thread in
    let n = old.steps + 1 in
    let turns = old.turns.items ++ used in
    let before = leg_reads core t old.steps old.turns.items start in
    let looked = leg_looks core t old.steps old.turns.items start in
    let stored = leg_stores core t old.steps old.turns.items start in
    let change_there = step_change core here t in
    record {
      goes =
          moved core old new n turns (λ u k ts s. leg_goes core u k ts s) m
          ∙ goes-further core old w to used step;
      given =
          seen.given
          ∙ (λ i. gathered (w.given i) (paths_of (seen.value_is i)))
          ∙ ap (gathered (gathered [] before)) (sym (value-is-read core here t))
          ∙ sym (gathered-append [] before (step_reads core here t))
          ∙ ap (gathered []) (sym (reads-further core old w to used step))
          ∙ ap (gathered []) (sym (moved core old new n turns (λ u k ts s. leg_reads core u k ts s) m));
      reads =
          same-kept new.reads (fields_of looked ++ listed look)
          (fields_of (leg_looks core new.thread new.steps new.turns.items (entry_state core new)))
          (ap (λ (fs : List FieldId). fields_of looked ++ fs) seen.look_is
          ∙ sym (fields-both looked (step_looks core here t))
          ∙ ap fields_of (sym (looks-further core old w to used step))
          ∙ ap fields_of (sym (moved core old new n turns (λ u k ts s. leg_looks core u k ts s) m)))
          (seen.reads (fields_of looked) w.reads);
      writes =
          subst (λ (o : Option (List Spot)). IsNoted new.is_loud new.writes o)
          (sym (stores-further core old w to used step)
          ∙ sym (moved core old new n turns (λ u k ts s. leg_stores core u k ts s) m))
          (subst (λ (b : Bool). IsNoted b new.writes (stored_both stored (noted_step change_there)))
          (sym (seen.loud ∙ ap (is_loud_behind old.is_loud) seen.change_is))
          (noted-on change_there old.is_loud old.writes new.writes stored w.writes
          (subst (λ (c : FieldChange). (fields : List FieldId) → AreKept old.writes fields →
          AreKept new.writes (fields ++ written c)) seen.change_is seen.writes)));
    }
  where
    noted_step : Change → Option (List Spot)
    noted_step c = noted c (Some [])

-- ---- the step is not made

pub record IsStill (old new : Walk) (look : Option FieldId) : Type 0 where
  pub state : state_of new.machine ≡ state_of old.machine
  pub given : new.given ≡ old.given
  pub reads : (fields : List FieldId) → AreKept old.reads fields → AreKept new.reads (fields ++ listed look)
  pub writes : new.writes ≡ old.writes
  pub loud : new.is_loud ≡ old.is_loud

pub stayed : (core : Core) (old new : Walk) (look : Option FieldId) → IsWalk core old →
    IsMoved old new old.steps old.turns.items → IsStill old new look → IsWalk core new
stayed core old new look w m still =
    let start = entry_state core old in
    let t = old.thread in
    let n = old.steps in
    let turns = old.turns.items in
    record {
      goes =
          moved core old new n turns (λ u k ts s. leg_goes core u k ts s) m
          ∙ w.goes
          ∙ ap (λ (s : State). let g : Option Going = Some (s, []) in g) (sym still.state);
      given =
          still.given
          ∙ w.given
          ∙ ap (gathered []) (sym (moved core old new n turns (λ u k ts s. leg_reads core u k ts s) m));
      reads =
          same-kept new.reads (fields_of (leg_looks core t n turns start))
          (fields_of (leg_looks core new.thread new.steps new.turns.items (entry_state core new)))
          (ap fields_of (sym (moved core old new n turns (λ u k ts s. leg_looks core u k ts s) m)))
          (first-kept new.reads (fields_of (leg_looks core t n turns start)) (listed look)
          (still.reads (fields_of (leg_looks core t n turns start)) w.reads));
      writes =
          subst (λ (o : Option (List Spot)). IsNoted new.is_loud new.writes o)
          (sym (moved core old new n turns (λ u k ts s. leg_stores core u k ts s) m))
          (subst (λ (kept : BTreeSet FieldId). IsNoted new.is_loud kept (leg_stores core t n turns start))
          (sym still.writes)
          (subst (λ (b : Bool). IsNoted b old.writes (leg_stores core t n turns start)) (sym still.loud) w.writes));
    }

pub stopped-there : (core : Core) (old new : Walk) (rest : List Turn) (look : Option FieldId) →
    IsMoved old new old.steps old.turns.items → IsStill old new look →
    listed look ≡ fields_of (step_looks core (state_of old.machine) old.thread) →
    one_step core old.thread rest (state_of old.machine) ≡ None → IsStopped core old rest new
stopped-there core old new rest look m still look_is none =
    record {
      steps = m.steps_are;
      turns = m.turns_are;
      none = (λ i. one_step core (m.thread i) rest (still.state i)) ∙ none;
      looks =
          same-kept new.reads (listed look) (fields_of (step_looks core (state_of new.machine) new.thread))
          (look_is
          ∙ (λ i. fields_of (step_looks core (sym still.state i) (sym m.thread i))))
          (still.reads [] (none-kept old.reads));
    }
