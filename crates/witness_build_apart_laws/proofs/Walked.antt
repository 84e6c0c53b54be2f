-- What two threads that go alone from the entries of their methods tell of the mark of a warning.
use Rattle.std.proofs.Common.{◌≡◌, ℕ, zero, suc, Bool, List, [], ◌∷◌, Option, None, Some}
use Rattle.std.proofs.Common.{refl, sym, ap, subst, ◌∙◌}
use Rattle.std.specs.List.{list_any}
use Rattle.racer_base.specs.declared.ids.FieldId.{FieldId}
use Rattle.racer_base.specs.declared.ids.MethodId.{MethodId}
use Rattle.racer_base.specs.declared.ids.Place.{Place}
use Rattle.core_code.specs.Core.{Core}
use Rattle.core_semantics.specs.declared.answer.Turn.{Turn}
use Rattle.core_semantics.specs.declared.object.Object.{Object}
use Rattle.core_semantics.specs.declared.object.Start.TheVariants.{All}
use Rattle.core_semantics.specs.declared.object.StartPath.{StartPath}
use Rattle.core_semantics.specs.Changes.{Spot}
use Rattle.core_semantics.specs.Legs.{Leg}
use Rattle.core_semantics.specs.Runs.{begun, next_touch, place}
use Rattle.core_semantics.specs.State.{State, Thread, thread_of}
use Rattle.core_semantics.specs.Advances.{Going, one_step}
use Rattle.core_ways.specs.Ends.{Ended, Past, Stopped, leg_end, leg_reads}
use Rattle.core_ways.specs.Gathered.{gathered}
use Rattle.core_ways.specs.Marks.{Confirmed, blocked_at, mark_by_run}
use Rattle.witness_build_apart_laws.specs.Apart.{AreAlike, DoesAvoid, avoids_behind}
use Rattle.witness_build_apart_laws.specs.Goes.{GoingAlike, leg_goes, nothing}
use Rattle.witness_build_apart_laws.specs.Starts.{entry_of}
use Rattle.witness_build_apart_laws.specs.Stores.{is_spot, leg_stores}
use Rattle.witness_build_apart_laws.specs.Walked.{AreWalked}
use Rattle.witness_build_apart_laws.proofs.Beginnings.{avoids-nothing, avoids-same, goes-same, looks-avoid, stores-same}
use Rattle.witness_build_apart_laws.proofs.Legs.{legs-end-alike, legs-read-alike}
use Rattle.witness_build_apart_laws.proofs.Marks.{apart-blocked, apart-confirmed, comes-alike, stops-alike}
use Rattle.witness_build_apart_laws.proofs.NoPlain.{stores-no-plain}
use Rattle.witness_build_apart_laws.proofs.SaidByRun.{said-first}
use Rattle.witness_build_apart_laws.proofs.Starts.{begun-alike, begun-free, begun-plain}

avoided-behind : (rest : List Turn → State → Type 0) (o : Option Going) →
    ((ts : List Turn) (x : State) → rest ts x) → avoids_behind rest o
avoided-behind rest None all = tt
avoided-behind rest (Some (x, ts)) all = all ts x

-- each leg reads none of no fields
pub avoids-none : (core : Core) (t n : ℕ) (turns : List Turn) (s : State) → DoesAvoid core nothing t n turns s
avoids-none core t zero turns s = tt
avoids-none core t (suc n) turns s = (
  avoids-nothing (next_touch s t),
  avoided-behind (DoesAvoid core nothing t n) (one_step core t turns s) (avoids-none core t n),
)

pub record Came (core : Core) (t : ℕ) (y : Option Going) (to : State) : Type 0 where
  pub state : State
  pub left : List Turn
  pub comes : y ≡ Some (state, left)
  pub alike : AreAlike core nothing t to state

pub comes-to : (core : Core) (t : ℕ) (x y : Option Going) (to : State) (left : List Turn) →
    GoingAlike core nothing t x y →
    x ≡ Some (to, left) → Came core t y to
comes-to core t None y to left alike e = absurd cc
comes-to core t (Some (a, ts)) None to left alike e = absurd alike
comes-to core t (Some (a, ts)) (Some (b, us)) to left alike e =
    let pair : ◌≡◌ {A = Going} (a, ts) (to, left) = cc in
    record {
      state = b;
      left = us;
      comes = refl;
      alike = subst (λ (x : State). AreAlike core nothing t x b) (ap (λ (g : Going). g.0) pair) alike.0;
    }

abbrev ends_alone : Core → Leg → MethodId → Ended
ends_alone core g m = leg_end core g.thread g.steps g.turns (begun core m m All)

abbrev reads_alone : Core → Leg → MethodId → List StartPath
reads_alone core g m = leg_reads core g.thread g.steps g.turns (begun core m m All)

abbrev among : List Spot → Object → FieldId → Bool
among spots o x = list_any (is_spot o x) spots

-- the first thread stops, alone as in the run
pub walked-first : (core : Core) (f g : Leg) (m m1 m2 : MethodId) (at : State) → m ≡ entry_of f.thread m1 m2 →
    ends_alone core f m ≡ Stopped at →
    blocked_at f.thread (place at f.thread) ≡ mark_by_run core (f ∷ g ∷ []) (begun core m1 m2 All)
walked-first core f g m m1 m2 at entry ends =
    let s = begun core m1 m2 All in
    let last = stops-alike core nothing f.thread at (ends_alone core f m) (leg_end core f.thread f.steps f.turns s)
    (legs-end-alike core nothing f.thread f.steps f.turns (begun core m m All) s
    (begun-alike core f.thread m m1 m2 entry) (avoids-none core f.thread f.steps f.turns (begun core m m All))) ends in
    ap (λ (p : Option Place). blocked_at f.thread p) last.2 ∙ said-first core f g s last.0 last.1

module _ (core : Core) (f g : Leg) (m n m1 m2 : MethodId) (w : AreWalked core f g m n)
    (of_first : m ≡ entry_of f.thread m1 m2) (of_second : n ≡ entry_of g.thread m1 m2) where
  came : Came core f.thread (leg_goes core f.thread f.steps f.turns (begun core m1 m2 All)) w.to
  came =
      comes-to core f.thread (leg_goes core f.thread f.steps f.turns (begun core m m All))
      (leg_goes core f.thread f.steps f.turns (begun core m1 m2 All)) w.to w.left
      (goes-same core f.thread f.steps f.turns (begun core m m All) (begun core m1 m2 All)
      (begun-alike core f.thread m m1 m2 of_first)) w.goes

  still-free : (thread_of came.state f.thread).locks ≡ []
  still-free = sym (ap (λ (x : Thread). x.locks) came.alike.thread) ∙ w.free

  stores-there : leg_stores core f.thread f.steps f.turns (begun core m1 m2 All) ≡ Some w.spots
  stores-there =
      sym (stores-same core f.thread f.steps f.turns (begun core m m All) (begun core m1 m2 All)
      (begun-alike core f.thread m m1 m2 of_first))
      ∙ w.stores

  avoids-there : DoesAvoid core (among w.spots) g.thread g.steps g.turns (begun core m1 m2 All)
  avoids-there =
      avoids-same core g.thread (among w.spots) g.steps g.turns (begun core n n All) (begun core m1 m2 All)
      (begun-alike core g.thread n m1 m2 of_second)
      (looks-avoid core (among w.spots) g.thread g.steps g.turns (begun core n n All)
      (λ o x plain. stores-no-plain core f.thread f.steps f.turns (begun core m m All) w.spots o x w.stores plain)
      w.apart)

  pub walked-second : (at : State) → ends_alone core g n ≡ Stopped at →
      blocked_at g.thread (place at g.thread) ≡ mark_by_run core (f ∷ g ∷ []) (begun core m1 m2 All)
  walked-second at ends =
      let s = begun core m1 m2 All in
      let last = stops-alike core nothing g.thread at (ends_alone core g n) (leg_end core g.thread g.steps g.turns s)
      (legs-end-alike core nothing g.thread g.steps g.turns (begun core n n All) s
      (begun-alike core g.thread n m1 m2 of_second) (avoids-none core g.thread g.steps g.turns (begun core n n All)))
      ends in
      ap (λ (p : Option Place). blocked_at g.thread p) last.2
      ∙ apart-blocked core f g s came.state last.0 came.left w.spots w.threads (begun-free core m1 m2 f.thread)
      still-free (begun-plain core m1 m2) came.comes stores-there avoids-there last.1

  pub walked-both : (end : State) → ends_alone core g n ≡ Past end →
      Confirmed (gathered (gathered [] (reads_alone core f m)) (reads_alone core g n)) (f ∷ g ∷ [])
      ≡ mark_by_run core (f ∷ g ∷ []) (begun core m1 m2 All)
  walked-both end ends =
      let s = begun core m1 m2 All in
      let last = comes-alike core nothing g.thread end (ends_alone core g n) (leg_end core g.thread g.steps g.turns s)
      (legs-end-alike core nothing g.thread g.steps g.turns (begun core n n All) s
      (begun-alike core g.thread n m1 m2 of_second) (avoids-none core g.thread g.steps g.turns (begun core n n All)))
      ends in
      let one : reads_alone core f m ≡ leg_reads core f.thread f.steps f.turns s =
      legs-read-alike core nothing f.thread f.steps f.turns (begun core m m All) s
      (begun-alike core f.thread m m1 m2 of_first) (avoids-none core f.thread f.steps f.turns (begun core m m All)) in
      let other : reads_alone core g n ≡ leg_reads core g.thread g.steps g.turns s =
      legs-read-alike core nothing g.thread g.steps g.turns (begun core n n All) s
      (begun-alike core g.thread n m1 m2 of_second) (avoids-none core g.thread g.steps g.turns (begun core n n All)) in
      (λ i. Confirmed (gathered (gathered [] (one i)) (other i)) (f ∷ g ∷ []))
      ∙ apart-confirmed core f g s came.state last.0 came.left w.spots w.threads (begun-free core m1 m2 f.thread)
      still-free (begun-plain core m1 m2) came.comes stores-there avoids-there last.1
