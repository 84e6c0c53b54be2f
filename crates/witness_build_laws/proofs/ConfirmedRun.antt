-- The run of a confirmed warning races, where each way leads to the object of its record's path.
use Rattle.std.proofs.Common.{◌≡◌, ℕ, Bool, true, false, cond, not, ◌&&◌, ◌||◌, List, [], ◌∷◌, Option, None, Some}
use Rattle.std.proofs.Common.{refl, sym}
use Rattle.std.proofs.Common.{ap, subst, ◌∙◌}
use Rattle.std.specs.List.{Contains}
use Rattle.std.proofs.lemmas.Bool.{not-true, and_parts}
use Rattle.racer_base.specs.declared.ids.MethodId.{MethodId}
use Rattle.racer_base.specs.declared.ids.Touch.{Touch}
use Rattle.racer_base.proofs.Tests.{and_second}
use Rattle.access_paths.specs.declared.path.Path.{Path}
use Rattle.access_paths.specs.declared.path.Root.{Root}
use Rattle.access_paths.specs.declared.path.Root.TheVariants.{This, Class, Formal, Some as SomeOf}
use Rattle.access_paths.specs.Paths.{is_formal, is_some_root, same_path}
use Rattle.access_paths.specs.Same.{equal_of_same}
use Rattle.access_domain.specs.declared.access.Access.{Access}
use Rattle.core_code.specs.Touches.{is_write}
use Rattle.access_domain.specs.OutcomeRecords.{record_at}
use Rattle.core_code.specs.Calls.{method_at}
use Rattle.core_code.specs.Core.{Core, Method}
use Rattle.core_semantics.specs.declared.object.Start.TheVariants.{All, Only}
use Rattle.core_semantics.specs.declared.object.StartPath.{StartPath}
use Rattle.core_semantics.specs.Legs.{Leg, run}
use Rattle.core_semantics.specs.Runs.{begun, given_to, is_in, thread_at}
use Rattle.core_semantics.specs.State.{State, Store, Thread, other_of, thread_of}
use Rattle.core_semantics.specs.Steps.{entered}
use Rattle.core_ways.specs.Marks.{Confirmed, Said, Unnamed, first_halt, is_locked, leg_along, mark_of}
use Rattle.core_ways.specs.Marks.{objects_of}
use Rattle.core_ways.specs.Stable.{IsStable, is_lasting_root}
use Rattle.core_ways.specs.Ways.{way_of}
use Rattle.witness_build_laws.specs.Heaps.{Heap, state_in}
use Rattle.race_pairs.specs.declared.warning.Warning.{Warning}
use Rattle.race_pairs.specs.Pairs.{IsPair}
use Rattle.race_pairs.specs.Warnings.{conflicts, warnings}
use Rattle.race_pairs.proofs.WarningPairs.{warning_is_pair}
use Rattle.witness_build_laws.specs.Warned.{pair_of, warning_mark}
use Rattle.witness_build_laws.specs.Races.{RacesOn, Touches}
use Rattle.witness_build_laws.proofs.LegPairs.{AreOthers, LegLeads, TouchesAs, both-touch, unlocked-free}
use Rattle.witness_build_laws.proofs.MarkParts.{IsConfirmedBy, mark-parts}
use Rattle.witness_build_laws.proofs.WitnessRuns.{EndsFrom, LegsCome, both-race, legs-come, legs-come-in}
use Rattle.witness_build_laws.proofs.WitnessRuns.{two_legs}

-- ---- both threads

zero-one : AreOthers 0 1
zero-one = record { first = λ s. refl; second = λ s. refl }

one-zero : AreOthers 1 0
one-zero = record { first = λ s. refl; second = λ s. refl }

abbrev thread_by : ℕ → Option Method → Thread
thread_by t o =
    elim o [
      | None ↦ record { frames = []; locks = [] }
      | Some method ↦ record { frames = entered method (given_to t method) ∷ []; locks = [] }
    ]

abbrev at_entry : ℕ → Method → Thread
at_entry t method = record { frames = entered method (given_to t method) ∷ []; locks = [] }

enters : (core : Core) (t : ℕ) (m : MethodId) (method : Method) → method_at core m ≡ Some method →
    thread_at core t m ≡ at_entry t method
enters core t m method is = ap (thread_by t) is

-- ---- the two records of a warning

-- what a conflict says
pub record Conflict (a b : Access) : Type 0 where
  pub path : b.path ≡ a.path
  pub formal : is_formal a.path.root ≡ false
  pub write : (is_write a.kind || is_write b.kind) ≡ true
  pub locks : (a.locked && b.locked) ≡ false

pub conflict-parts : (a b : Access) → conflicts a b ≡ true → Conflict a b
conflict-parts a b is =
    let same : Bool = same_path a.path b.path in
    let formal : Bool = not (is_formal a.path.root) in
    let write : Bool = is_write a.kind || is_write b.kind in
    let locks : Bool = not (a.locked && b.locked) in
    let main : Bool = not (a.main && b.main) in
    let four = and_parts (same && formal && write && locks) main is in
    let three = and_parts (same && formal && write) locks four.0 in
    let two = and_parts (same && formal) write three.0 in
    let one = and_parts same formal two.0 in
    record {
      path = sym (equal_of_same a.path b.path one.0);
      formal = not-true (is_formal a.path.root) one.1;
      write = two.1;
      locks = not-true (a.locked && b.locked) three.1;
    }

pub lasting : (root : Root) → is_some_root root ≡ false → is_formal root ≡ false → is_lasting_root root ≡ true
lasting This x y = refl
lasting (Class c) x y = refl
lasting (Formal i) x y = absurd cc
lasting (SomeOf c) x y = absurd cc

swapped : (a b : Bool) → (a || b) ≡ (b || a)
swapped true true = refl
swapped true false = refl
swapped false true = refl
swapped false false = refl

-- ---- a warning, with its records and their ways

-- all that is used of a warning: its records, which conflict on a stable path, and where their ways lead
pub record IsReady (core : Core) (w : Warning) (a b : Access) (f g : Method) : Type 1 where
  pub Good : Store → Type 0
  pub begins : Good (begun core w.entry w.partner All).store
  pub entry : method_at core w.entry ≡ Some f
  pub partner : method_at core w.partner ≡ Some g
  pub of_entry : record_at core w.entry w.access ≡ Some a
  pub of_partner : record_at core w.partner w.partner_access ≡ Some b
  pub conflict : Conflict a b
  -- where a way is run from the entry of its method, beside a thread that holds no monitor
  pub ends : (m : MethodId) (method : Method) (i : ℕ) (r : Access) (s : State) (t : ℕ) →
      method_at core m ≡ Some method → record_at core m i ≡ Some r → thread_of s t ≡ at_entry t method →
      (other_of s t).locks ≡ [] → EndsFrom core t m i r method s
  pub leads_entry : LegLeads core Good w.entry w.access a f 0
  pub leads_partner : LegLeads core Good w.partner w.partner_access b g 1

abbrev pub full : Core → Warning → State
full core w = begun core w.entry w.partner All

pub first-entered : (core : Core) (w : Warning) (f : Method) → method_at core w.entry ≡ Some f →
    thread_of (full core w) 0 ≡ at_entry 0 f
first-entered core w f is = enters core 0 w.entry f is

pub second-entered : (core : Core) (w : Warning) (g : Method) → method_at core w.partner ≡ Some g →
    thread_of (full core w) 1 ≡ at_entry 1 g
second-entered core w g is = enters core 1 w.partner g is

abbrev locks_of : Thread → Type 0
locks_of thread = thread.locks ≡ []

-- a touch of a cell, without its kind, in any heap
touches-cell : (heap : Heap) (s : State) (t : ℕ) (p : Path) (kind : Touch) → TouchesAs s t p kind →
    Touches (state_in heap s) t p
touches-cell heap s t p kind x = record { field = x.field; last = x.last; kind = kind; is = x.is }

-- the entry's record is not locked: its leg goes first
entry-first : (core : Core) (w : Warning) (a b : Access) (f g : Method) (objects : List StartPath) (legs : List Leg) →
    IsReady core w a b f g → a.locked ≡ false →
    legs ≡ two_legs core 0 1 w.entry w.partner w.access w.partner_access →
    first_halt core (two_legs core 0 1 w.entry w.partner w.access w.partner_access) (full core w) ≡ None →
    objects ≡ objects_of core (two_legs core 0 1 w.entry w.partner w.access w.partner_access) (full core w) →
    RacesOn core w objects legs a.path
entry-first core w a b f g objects legs ready unlocked are made is =
    let s : State = full core w in
    let other_entered : thread_of s 1 ≡ at_entry 1 g = second-entered core w g ready.partner in
    let come : LegsCome core 0 1 w.entry w.partner w.access w.partner_access a b f g s =
    legs-come core 0 1 w.entry w.partner w.access w.partner_access a b f g s
    (ready.ends w.entry f w.access a s 0 ready.entry ready.of_entry (first-entered core w f ready.entry)
    (ap (λ (x : Thread). x.locks) other_entered))
    (λ to at. ready.ends w.partner g w.partner_access b to 1 ready.partner ready.of_partner (at.other ∙ other_entered)
    (unlocked-free core w.entry w.access a (given_to 0 f) s 0 to at unlocked)) made in
    let finite = legs-come-in core w.entry w.partner 0 1 w.entry w.partner w.access w.partner_access a b f g objects
    is come in
    let touch = both-touch core ready.Good 0 1 zero-one w.entry w.partner w.access w.partner_access a b f g s come.to
    come.end
    ready.leads_entry ready.leads_partner ready.begins come.at_first come.at_second in
    let partner : TouchesAs come.end 1 a.path b.kind =
    subst (λ (p : Path). TouchesAs come.end 1 p b.kind) ready.conflict.path touch.1 in
    record {
      first = leg_along 0 (way_of core w.entry w.access);
      second = leg_along 1 (way_of core w.partner w.partner_access);
      are = are;
      between = state_in (is_in (Only objects)) come.to;
      first_run = finite.first;
      free = unlocked-free core w.entry w.access a (given_to 0 f) s 0 come.to come.at_first unlocked;
      end = state_in (is_in (Only objects)) come.end;
      runs = ap (λ (ls : List Leg). run core ls (begun core w.entry w.partner (Only objects))) are ∙ finite.both;
      race = both-race come.end a.path a.kind b.kind ready.conflict.write touch.0 partner;
      entry = touches-cell (is_in (Only objects)) come.end 0 a.path a.kind touch.0;
      partner = touches-cell (is_in (Only objects)) come.end 1 a.path b.kind partner;
    }

-- it is locked, so the partner's is not: the partner's leg goes first
partner-first : (core : Core) (w : Warning) (a b : Access) (f g : Method) (objects : List StartPath) (legs : List Leg) →
    IsReady core w a b f g → b.locked ≡ false →
    legs ≡ two_legs core 1 0 w.partner w.entry w.partner_access w.access →
    first_halt core (two_legs core 1 0 w.partner w.entry w.partner_access w.access) (full core w) ≡ None →
    objects ≡ objects_of core (two_legs core 1 0 w.partner w.entry w.partner_access w.access) (full core w) →
    RacesOn core w objects legs a.path
partner-first core w a b f g objects legs ready unlocked are made is =
    let s : State = full core w in
    let other_entered : thread_of s 0 ≡ at_entry 0 f = first-entered core w f ready.entry in
    let come : LegsCome core 1 0 w.partner w.entry w.partner_access w.access b a g f s =
    legs-come core 1 0 w.partner w.entry w.partner_access w.access b a g f s
    (ready.ends w.partner g w.partner_access b s 1 ready.partner ready.of_partner (second-entered core w g
    ready.partner)
    (ap (λ (x : Thread). x.locks) other_entered))
    (λ to at. ready.ends w.entry f w.access a to 0 ready.entry ready.of_entry (at.other ∙ other_entered)
    (unlocked-free core w.partner w.partner_access b (given_to 1 g) s 1 to at unlocked)) made in
    let finite = legs-come-in core w.entry w.partner 1 0 w.partner w.entry w.partner_access w.access b a g f objects
    is come in
    let touch = both-touch core ready.Good 1 0 one-zero w.partner w.entry w.partner_access w.access b a g f s come.to
    come.end
    ready.leads_partner ready.leads_entry ready.begins come.at_first come.at_second in
    let partner : TouchesAs come.end 1 a.path b.kind =
    subst (λ (p : Path). TouchesAs come.end 1 p b.kind) ready.conflict.path touch.0 in
    record {
      first = leg_along 1 (way_of core w.partner w.partner_access);
      second = leg_along 0 (way_of core w.entry w.access);
      are = are;
      between = state_in (is_in (Only objects)) come.to;
      first_run = finite.first;
      free = unlocked-free core w.partner w.partner_access b (given_to 1 g) s 1 come.to come.at_first unlocked;
      end = state_in (is_in (Only objects)) come.end;
      runs = ap (λ (ls : List Leg). run core ls (begun core w.entry w.partner (Only objects))) are ∙ finite.both;
      race = both-race come.end a.path a.kind b.kind ready.conflict.write touch.1 partner;
      entry = touches-cell (is_in (Only objects)) come.end 0 a.path a.kind touch.1;
      partner = touches-cell (is_in (Only objects)) come.end 1 a.path b.kind partner;
    }

-- ---- in running order

abbrev pub legs_by : Core → Warning → Bool → List Leg
legs_by core w b =
    cond b (two_legs core 1 0 w.partner w.entry w.partner_access w.access)
    (two_legs core 0 1 w.entry w.partner w.access w.partner_access)

pub locked-is : (core : Core) (w : Warning) (a : Access) → record_at core w.entry w.access ≡ Some a →
    is_locked core w.entry w.access ≡ a.locked
locked-is core w a is = ap (λ (o : Option Access). elim o as (λ _. Bool) [ None ↦ false | Some r ↦ r.locked ]) is

by-order : (core : Core) (w : Warning) (a b : Access) (f g : Method) (objects : List StartPath) (legs : List Leg)
    (locked : Bool) → a.locked ≡ locked → IsReady core w a b f g → legs ≡ legs_by core w locked →
    first_halt core (legs_by core w locked) (full core w) ≡ None →
    objects ≡ objects_of core (legs_by core w locked) (full core w) → RacesOn core w objects legs a.path
by-order core w a b f g objects legs true e ready are made is =
    partner-first core w a b f g objects legs ready (and_second a.locked b.locked e ready.conflict.locks) are
    made is
by-order core w a b f g objects legs false e ready are made is =
    entry-first core w a b f g objects legs ready e are made is

pub confirmed-race : (core : Core) (w : Warning) (a b : Access) (f g : Method) (objects : List StartPath)
    (legs : List Leg) → IsReady core w a b f g → IsConfirmedBy core (pair_of w) a.path objects legs →
    RacesOn core w objects legs a.path
confirmed-race core w a b f g objects legs ready by =
    let locked : Bool = is_locked core w.entry w.access in
    by-order core w a b f g objects legs locked (sym (locked-is core w a ready.of_entry)) ready by.legs by.made
    by.objects

-- ---- a confirmed warning

abbrev pub mark_by : Core → Warning → Option Access → Said
mark_by core w o = elim o [ None ↦ Unnamed | Some r ↦ mark_of core (pair_of w) r.path ]

-- a warning of the list with its records, on whose path it is confirmed
pub record IsFound (core : Core) (w : Warning) (objects : List StartPath) (legs : List Leg) : Type 0 where
  pub a : Access
  pub b : Access
  pub f : Method
  pub g : Method
  pub entry : method_at core w.entry ≡ Some f
  pub partner : method_at core w.partner ≡ Some g
  pub of_entry : record_at core w.entry w.access ≡ Some a
  pub of_partner : record_at core w.partner w.partner_access ≡ Some b
  pub conflict : Conflict a b
  pub stable : IsStable core w.entry w.partner a.path
  pub by : IsConfirmedBy core (pair_of w) a.path objects legs

pub confirmed-found : (core : Core) (w : Warning) (objects : List StartPath) (legs : List Leg) →
    Contains (warnings core) w → warning_mark core w ≡ Confirmed objects legs → IsFound core w objects legs
confirmed-found core w objects legs listed is =
    let pair : IsPair core w = warning_is_pair core w listed in
    let a : Access = pair.first in
    let at : record_at core w.entry w.access ≡ Some a = pair.of_entry.has in
    let by : IsConfirmedBy core (pair_of w) a.path objects legs =
    mark-parts core (pair_of w) a.path legs objects (sym (ap (mark_by core w) at) ∙ is) in
    let conflict : Conflict a pair.partner = conflict-parts a pair.partner pair.conflict in
    record {
      a = a;
      b = pair.partner;
      f = pair.of_entry.method;
      g = pair.of_partner.method;
      entry = pair.of_entry.is;
      partner = pair.of_partner.is;
      of_entry = at;
      of_partner = pair.of_partner.has;
      conflict = conflict;
      stable = record { root = lasting a.path.root by.named conflict.formal; prefixes = by.stable };
      by = by;
    }
