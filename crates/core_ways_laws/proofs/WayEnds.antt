-- Ways in the machine of two threads end just before their access.
use Rattle.std.proofs.Common.{◌≡◌, ℕ, suc, List, [], ◌∷◌, ◌++◌, Option, None, Some}
use Rattle.std.proofs.Common.{length, slice_get, refl, sym, ap, subst, ◌∙◌, arith}
use Rattle.std.proofs.lemmas.List.{append-nil}
use Rattle.racer_base.specs.declared.ids.MethodId.{MethodId}
use Rattle.core_code.specs.declared.program.Program.{Program}
use Rattle.core_code.specs.Calls.{method_at, rank_of}
use Rattle.core_code.specs.Core.{Core, Method}
use Rattle.core_code.specs.Program.{core as core_of}
use Rattle.access_domain.specs.declared.access.Access.{Access}
use Rattle.access_domain.specs.OutcomeRecords.{record_at}
use Rattle.core_semantics.specs.declared.answer.Turn.{Turn}
use Rattle.core_semantics.specs.declared.object.Value.{Value}
use Rattle.core_semantics.specs.Legs.{Ran, runs}
use Rattle.core_semantics.specs.State.{Frame, State, Thread, Op, before, other_of, thread_of, with_thread}
use Rattle.core_semantics.specs.Steps.{After, entered}
use Rattle.core_semantics.proofs.ThreadLemmas.{store-now, thread-now}
use Rattle.core_ways.specs.Alone.{Alone, Came, Stuck, Broken, ComesTo, IsSeen, alone, part_of}
use Rattle.core_ways.specs.Ways.{way_of}
use Rattle.core_ways.proofs.Beside.{beside, other-stays}
use Rattle.core_ways_laws.specs.Ends.{EndsAtAccess, IsAtAccess}
use Rattle.core_ways_laws.specs.RunValues.{IsAtArrival, IsOfRecord, IsArrival, at_point}
use Rattle.core_ways_laws.specs.Arrivals.{Arrival, arrival_of}
use Rattle.core_ways_laws.specs.Values.{entry_point}
use Rattle.core_ways_laws.proofs.ReachedValues.{OnArrival}
use Rattle.core_ways_laws.proofs.RecordArrivals.{AreInOrder, record-goes, record-so}

module _ (core : Core) (m : MethodId) (i : ℕ) (r : Access) (values : List Value) (s : State) (t : ℕ) where
  at-arrival : (a : After) (arrival : Arrival) → arrival_of core m i values s.store ≡ Some arrival →
      IsAtArrival arrival [] a →
      IsOfRecord r arrival →
      IsAtAccess core m i r values s t (with_thread s t a.store a.thread)
  at-arrival a arrival leads at of =
      let to : State = with_thread s t a.store a.thread in
      let frame : Frame = record {
        vars = arrival.at.vars;
        stack = arrival.at.stack;
        todo = Op at.place arrival.op ∷ at.todo;
        locked = at.locked;
      } in
      let thread : thread_of to t ≡ record { frames = frame ∷ at.callers; locks = at.monitors ++ [] } =
      thread-now s t a ∙ ap (λ (x : After). x.thread) at.is in
      record {
        other = other-stays s t a;
        arrival = arrival;
        leads = leads;
        store = store-now s t a ∙ ap (λ (x : After). x.store) at.is;
        frame = frame;
        innermost = ap (λ (x : Thread). slice_get x.frames 0) thread;
        vars = refl;
        stack = refl;
        place = at.place;
        next = refl;
        touches = of.touches;
        field = of.field;
        locks =
            ap (λ (x : Thread). length x.locks) thread ∙ ap length (append-nil at.monitors) ∙ at.count;
        held = of.held;
      }

  came-at : (a : After) (o : Option Arrival) → arrival_of core m i values s.store ≡ o → IsArrival o [] a →
      OnArrival (IsOfRecord r) o → IsAtAccess core m i r values s t (with_thread s t a.store a.thread)
  came-at a None leads at of = absurd at
  came-at a (Some arrival) leads at of = at-arrival a arrival leads at of

  ends-so : (alone_run : Alone) (ran : Ran) → IsSeen s t alone_run ran →
      ComesTo (IsArrival (arrival_of core m i values s.store) []) [] alone_run →
      OnArrival (IsOfRecord r) (arrival_of core m i values s.store) → EndsAtAccess core m i r values s t ran
  ends-so (Came a left) ran seen comes of =
      subst (EndsAtAccess core m i r values s t) (sym seen)
      (comes.0, came-at a (arrival_of core m i values s.store) refl comes.1 of)
  ends-so (Stuck why) ran seen comes of =
      subst (EndsAtAccess core m i r values s t) (sym seen.2) (why, refl)
  ends-so Broken ran seen comes of = absurd cc

pub way-ends : (p : Program) (m : MethodId) (method : Method) (i : ℕ) (r : Access) (values : List Value) (s : State)
    (t : ℕ) → method_at (core_of p) m ≡ Some method → record_at (core_of p) m i ≡ Some r →
    thread_of s t ≡ record { frames = entered method values ∷ []; locks = [] } → (other_of s t).locks ≡ [] →
    EndsAtAccess (core_of p) m i r values s t
    (runs (core_of p) t (way_of (core_of p) m i).steps (way_of (core_of p) m i).turns s)
way-ends p m method i r values s t there at entry free =
    let core : Core = core_of p in
    let facts : AreInOrder core = record {
      right = record { ranks = p.ranks_there; calls = p.calls_right; ends = p.ends_by_return };
      order = p.sites_in_order;
    } in
    let way = way_of core m i in
    let start : After = at_point (entry_point method values s.store) (before method.code []) 0 [] [] in
    let begins : part_of s t ≡ start =
    (λ k. let a : After = record { store = s.store; thread = entry k } in a) in
    let goes : ComesTo (IsArrival (arrival_of core m i values s.store) []) []
    (alone core way.steps (way.turns ++ []) start) =
    record-goes core facts (suc (rank_of core m)) m i (omega arith) method r there at values s.store [] [] [] in
    ends-so core m i r values s t (alone core way.steps way.turns (part_of s t))
    (runs core t way.steps way.turns s) (beside core t way.steps way.turns s free)
    (subst (λ (a : After).
    ComesTo (IsArrival (arrival_of core m i values s.store) []) [] (alone core way.steps way.turns a)) (sym begins)
    (subst (λ (ts : List Turn).
    ComesTo (IsArrival (arrival_of core m i values s.store) []) [] (alone core way.steps ts start))
    (append-nil way.turns)
    goes))
    (record-so core facts (suc (rank_of core m)) m method i r (omega arith) there at values s.store)
