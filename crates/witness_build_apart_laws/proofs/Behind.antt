-- What a second leg says that is run behind what a first one, gone alone, stored.
use Rattle.std.proofs.Common.{◌≡◌, ℕ, zero, suc, ◌+◌, true, false, cond, List, [], ◌∷◌, Option, Some}
use Rattle.std.proofs.Common.{refl, sym, ap, ◌∙◌}
use Rattle.racer_base.specs.declared.ids.MethodId.{MethodId}
use Rattle.racer_base.specs.declared.ids.Place.{Place}
use Rattle.core_code.specs.Core.{Core}
use Rattle.core_semantics.specs.declared.answer.Turn.{Turn}
use Rattle.core_semantics.specs.declared.answer.Turn.TheVariants.{Right}
use Rattle.core_semantics.specs.declared.object.Start.TheVariants.{All}
use Rattle.core_semantics.specs.Behind.{begun_behind}
use Rattle.core_semantics.specs.Legs.{Leg}
use Rattle.core_semantics.specs.Runs.{begun, place, wants_turn}
use Rattle.core_semantics.specs.State.{State, Thread, other_of, thread_of, with_thread}
use Rattle.core_semantics.specs.Steps.{After, Next, Goes, Sticks, Waits, Ends, step, thread_step, within}
use Rattle.core_semantics.specs.Advances.{made_of, one_step, straight, turned}
use Rattle.core_ways.specs.Ends.{Past, Stopped, leg_end, leg_reads}
use Rattle.core_ways.specs.Gathered.{gathered}
use Rattle.core_ways.specs.Marks.{Confirmed, blocked_at, mark_by_run}
use Rattle.core_ways.proofs.Beside.{other-stays}
use Rattle.witness_build_apart_laws.specs.Apart.{AreAlike}
use Rattle.witness_build_apart_laws.specs.Goes.{leg_goes, nothing}
use Rattle.witness_build_apart_laws.specs.Starts.{entry_of}
use Rattle.witness_build_apart_laws.proofs.Beginnings.{goes-same}
use Rattle.witness_build_apart_laws.proofs.Legs.{legs-end-alike, legs-read-alike}
use Rattle.witness_build_apart_laws.proofs.Marks.{comes-alike, goes-past, other-is, stops-alike, turned-round}
use Rattle.witness_build_apart_laws.proofs.Prefixes.{both, first-of}
use Rattle.witness_build_apart_laws.proofs.SaidByRun.{said-both, said-second}
use Rattle.witness_build_apart_laws.proofs.Starts.{begun-alike, other-free, same-thread}
use Rattle.witness_build_apart_laws.proofs.Storing.{turns-made}
use Rattle.witness_build_apart_laws.proofs.Walked.{Came, avoids-none, comes-to}

-- ---- the other thread stays as it is

made-keeps : (t : ℕ) (s next : State) (m : Next After) →
    made_of (within (λ (a : After). with_thread s t a.store a.thread) m) ≡ Some next → other_of next t ≡ other_of s t
made-keeps t s next (Goes a) e =
    let is : with_thread s t a.store a.thread ≡ next = cc in
    ap (λ (x : State). other_of x t) (sym is) ∙ other-stays s t a
made-keeps t s next (Sticks w) e = absurd cc
made-keeps t s next (Waits w) e = absurd cc
made-keeps t s next Ends e = absurd cc

step-keeps : (core : Core) (t : ℕ) (turn : Turn) (s next : State) → made_of (step core s t turn) ≡ Some next →
    other_of next t ≡ other_of s t
step-keeps core t turn s next e =
    made-keeps t s next (thread_step core turn (other_of s t).locks s.store (thread_of s t)) e

one-keeps : (core : Core) (t : ℕ) (turns : List Turn) (s next : State) (left : List Turn) →
    one_step core t turns s ≡ Some (next, left) → other_of next t ≡ other_of s t
one-keeps core t turns s next left =
    elim (wants_turn s t) as (λ w. cond w (turned core t turns s) (straight core t turns s) ≡ Some (next, left) →
    other_of next t ≡ other_of s t) [
      | true ↦ elim turns as (λ ts. turned core t ts s ≡ Some (next, left) → other_of next t ≡ other_of s t) [
        | [] ↦ λ e. absurd cc
        | ◌∷◌ turn rest ↦ λ e.
            step-keeps core t turn s next (turns-made rest (made_of (step core s t turn)) next left e)
      ]
      | false ↦ λ e. step-keeps core t Right s next (turns-made turns (made_of (step core s t Right)) next left e)
    ]

goes-keeps : (core : Core) (t n : ℕ) (turns : List Turn) (s to : State) (left : List Turn) →
    leg_goes core t n turns s ≡ Some (to, left) → other_of to t ≡ other_of s t
goes-keeps core t zero turns s to left e = ap (λ (x : State). other_of x t) (sym (both s to turns left e).0)
goes-keeps core t (suc n) turns s to left e =
    let f = first-of core t n turns s to left (one_step core t turns s) refl e in
    goes-keeps core t n f.rest f.next to left f.goes ∙ one-keeps core t turns s f.next f.rest f.made

-- ---- the second leg

module _ (core : Core) (f g : Leg) (m n m1 m2 : MethodId) (to : State) (left : List Turn)
    (threads : f.thread + g.thread ≡ 1) (of_first : m ≡ entry_of f.thread m1 m2)
    (of_second : n ≡ entry_of g.thread m1 m2)
    (goes : leg_goes core f.thread f.steps f.turns (begun core m m All) ≡ Some (to, left))
    (free : (thread_of to f.thread).locks ≡ []) where
  came : Came core f.thread (leg_goes core f.thread f.steps f.turns (begun core m1 m2 All)) to
  came =
      comes-to core f.thread (leg_goes core f.thread f.steps f.turns (begun core m m All))
      (leg_goes core f.thread f.steps f.turns (begun core m1 m2 All)) to left
      (goes-same core f.thread f.steps f.turns (begun core m m All) (begun core m1 m2 All)
      (begun-alike core f.thread m m1 m2 of_first)) goes

  past : leg_end core f.thread f.steps f.turns (begun core m1 m2 All) ≡ Past came.state
  past = goes-past core f.thread f.steps f.turns (begun core m1 m2 All) came.state came.left came.comes

  still-free : (other_of came.state g.thread).locks ≡ []
  still-free =
      ap (λ (x : Thread). x.locks)
      (other-is g.thread f.thread came.state (turned-round f.thread g.thread threads)
      ∙ sym came.alike.thread)
      ∙ free

  behind-alike : AreAlike core nothing g.thread (begun_behind core n n to.store) came.state
  behind-alike =
      record {
        thread =
            same-thread core g.thread n m1 m2 of_second
            ∙ sym (other-is f.thread g.thread (begun core m1 m2 All) threads)
            ∙ sym (goes-keeps core f.thread f.steps f.turns (begun core m1 m2 All) came.state came.left came.comes)
            ∙ other-is f.thread g.thread came.state threads;
        locks = other-free core n n g.thread ∙ sym still-free;
        stores = came.alike.stores;
      }

  pub behind-blocked : (at : State) →
      leg_end core g.thread g.steps g.turns (begun_behind core n n to.store) ≡ Stopped at →
      blocked_at g.thread (place at g.thread) ≡ mark_by_run core (f ∷ g ∷ []) (begun core m1 m2 All)
  behind-blocked at ends =
      let b = begun_behind core n n to.store in
      let last = stops-alike core nothing g.thread at (leg_end core g.thread g.steps g.turns b)
      (leg_end core g.thread g.steps g.turns came.state)
      (legs-end-alike core nothing g.thread g.steps g.turns b came.state behind-alike
      (avoids-none core g.thread g.steps g.turns b)) ends in
      ap (λ (p : Option Place). blocked_at g.thread p) last.2
      ∙ said-second core f g (begun core m1 m2 All) came.state last.0 past last.1

  pub behind-confirmed : (end : State) →
      leg_end core g.thread g.steps g.turns (begun_behind core n n to.store) ≡ Past end →
      Confirmed (gathered (gathered [] (leg_reads core f.thread f.steps f.turns (begun core m m All)))
      (leg_reads core g.thread g.steps g.turns (begun_behind core n n to.store))) (f ∷ g ∷ [])
      ≡ mark_by_run core (f ∷ g ∷ []) (begun core m1 m2 All)
  behind-confirmed end ends =
      let b = begun_behind core n n to.store in
      let last = comes-alike core nothing g.thread end (leg_end core g.thread g.steps g.turns b)
      (leg_end core g.thread g.steps g.turns came.state)
      (legs-end-alike core nothing g.thread g.steps g.turns b came.state behind-alike
      (avoids-none core g.thread g.steps g.turns b)) ends in
      let one : leg_reads core f.thread f.steps f.turns (begun core m m All)
      ≡ leg_reads core f.thread f.steps f.turns (begun core m1 m2 All) =
      legs-read-alike core nothing f.thread f.steps f.turns (begun core m m All) (begun core m1 m2 All)
      (begun-alike core f.thread m m1 m2 of_first) (avoids-none core f.thread f.steps f.turns (begun core m m All)) in
      let other : leg_reads core g.thread g.steps g.turns b ≡ leg_reads core g.thread g.steps g.turns came.state =
      legs-read-alike core nothing g.thread g.steps g.turns b came.state behind-alike
      (avoids-none core g.thread g.steps g.turns b) in
      (λ i. Confirmed (gathered (gathered [] (one i)) (other i)) (f ∷ g ∷ []))
      ∙ said-both core f g (begun core m1 m2 All) came.state last.0 past last.1
