-- Ways in the machine of two threads are not stuck at a throw where each method that reached code calls can return.
use Rattle.std.proofs.Common.{◌≡◌, ℕ, suc, List, [], ◌∷◌, ◌++◌, Some, sym, subst, arith}
use Rattle.std.proofs.lemmas.List.{append-nil}
use Rattle.racer_base.specs.declared.ids.MethodId.{MethodId}
use Rattle.core_code.specs.declared.program.Program.{Program}
use Rattle.core_code.specs.Calls.{method_at, rank_of}
use Rattle.core_code.specs.Core.{Core, Method}
use Rattle.core_code.specs.Program.{core as core_of}
use Rattle.access_domain.specs.declared.access.Access.{Access}
use Rattle.access_domain.specs.OutcomeRecords.{record_at}
use Rattle.core_semantics.specs.declared.answer.Turn.{Turn}
use Rattle.core_semantics.specs.declared.object.Value.{Value}
use Rattle.core_semantics.specs.Legs.{Ran, runs}
use Rattle.core_semantics.specs.State.{State, before, other_of, thread_of}
use Rattle.core_semantics.specs.Steps.{After, entered}
use Rattle.core_ways.specs.Alone.{Alone, Came, Stuck, Broken, ComesTo, IsSeen, alone, part_of}
use Rattle.core_ways.specs.Ways.{way_of}
use Rattle.core_ways.proofs.Beside.{beside}
use Rattle.core_ways_laws.specs.Arrivals.{arrival_of}
use Rattle.core_ways_laws.specs.ClearLegs.{DoCallsReturn, IsUnthrown}
use Rattle.core_ways_laws.specs.RunValues.{IsArrival, at_point}
use Rattle.core_ways_laws.specs.Values.{entry_point}
use Rattle.core_ways_laws.proofs.ClearSteps.{IsClear}
use Rattle.core_ways_laws.proofs.ClearWays.{way-clear}
use Rattle.core_ways_laws.proofs.RecordArrivals.{AreInOrder, record-goes}

clear-so : (s : State) (t : ℕ) (P : After → Type 0) (alone_run : Alone) (ran : Ran) → IsSeen s t alone_run ran →
    ComesTo P [] alone_run → IsClear alone_run → IsUnthrown ran
clear-so s t P (Came a left) ran seen comes clear = subst IsUnthrown (sym seen) tt
clear-so s t P (Stuck why) ran seen comes clear = subst IsUnthrown (sym seen.2) clear
clear-so s t P Broken ran seen comes clear = absurd cc

pub leg-unthrown : (p : Program) (m : MethodId) (method : Method) (i : ℕ) (r : Access) (values : List Value)
    (s : State) (t : ℕ) → DoCallsReturn (core_of p) m → method_at (core_of p) m ≡ Some method →
    record_at (core_of p) m i ≡ Some r → thread_of s t ≡ record { frames = entered method values ∷ []; locks = [] } →
    (other_of s t).locks ≡ [] →
    IsUnthrown (runs (core_of p) t (way_of (core_of p) m i).steps (way_of (core_of p) m i).turns s)
leg-unthrown p m method i r values s t each there at entry free =
    let core : Core = core_of p in
    let facts : AreInOrder core = record {
      right = record { ranks = p.ranks_there; calls = p.calls_right; ends = p.ends_by_return };
      order = p.sites_in_order;
    } in
    let way = way_of core m i in
    let start : After = at_point (entry_point method values s.store) (before method.code []) 0 [] [] in
    let begins : part_of s t ≡ start =
    (λ k. let a : After = record { store = s.store; thread = entry k } in a) in
    let P : After → Type 0 = IsArrival (arrival_of core m i values s.store) [] in
    let goes : ComesTo P [] (alone core way.steps (way.turns ++ []) start) =
    record-goes core facts (suc (rank_of core m)) m i (omega arith) method r there at values s.store [] [] [] in
    let clear : IsClear (alone core way.steps (way.turns ++ []) start) =
    way-clear core facts (suc (rank_of core m)) m i (omega arith) each method r there at values s.store [] [] [] in
    clear-so s t P (alone core way.steps way.turns (part_of s t)) (runs core t way.steps way.turns s)
    (beside core t way.steps way.turns s free)
    (subst (λ (a : After). ComesTo P [] (alone core way.steps way.turns a)) (sym begins)
    (subst (λ (ts : List Turn). ComesTo P [] (alone core way.steps ts start)) (append-nil way.turns) goes))
    (subst (λ (a : After). IsClear (alone core way.steps way.turns a)) (sym begins)
    (subst (λ (ts : List Turn). IsClear (alone core way.steps ts start)) (append-nil way.turns) clear))
