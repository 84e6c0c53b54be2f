-- What is said of two legs of which the second does not see the first.
use Rattle.std.proofs.Common.{◌≡◌, ℕ, zero, suc, ◌+◌, Bool, List, [], ◌∷◌, Option, Some}
use Rattle.std.proofs.Common.{refl, sym, ap, ◌∙◌, arith, slice_get}
use Rattle.std.specs.List.{list_any}
use Rattle.std.specs.Option.{option_and_then}
use Rattle.racer_base.specs.declared.ids.FieldId.{FieldId}
use Rattle.racer_base.specs.declared.ids.Place.{Place}
use Rattle.core_code.specs.Core.{Core}
use Rattle.core_semantics.specs.declared.answer.Turn.{Turn}
use Rattle.core_semantics.specs.declared.object.Object.{Object}
use Rattle.core_semantics.specs.declared.object.StartPath.{StartPath}
use Rattle.core_semantics.specs.Legs.{Leg}
use Rattle.core_semantics.specs.Runs.{next_of, place, place_of}
use Rattle.core_semantics.specs.State.{State, Thread, other_of, thread_of}
use Rattle.core_semantics.specs.Advances.{one_step}
use Rattle.core_ways.specs.Ends.{Ended, Past, Stopped, end_behind, leg_end, leg_reads}
use Rattle.core_ways.specs.Gathered.{gathered}
use Rattle.core_ways.specs.Marks.{Confirmed, blocked_at, mark_by_run}
use Rattle.witness_build_apart_laws.proofs.SaidByRun.{said-both, said-second}
use Rattle.witness_build_apart_laws.specs.Apart.{AreAlike, AreEndsAlike, DoesAvoid}
use Rattle.witness_build_apart_laws.specs.Goes.{leg_goes}
use Rattle.core_semantics.specs.Changes.{Spot}
use Rattle.witness_build_apart_laws.specs.Stores.{ArePlain, is_spot, leg_stores}
use Rattle.witness_build_apart_laws.proofs.Legs.{legs-end-alike, legs-read-alike}
use Rattle.witness_build_apart_laws.proofs.Prefixes.{both, first-of}
use Rattle.witness_build_apart_laws.proofs.Storing.{legs-store}

pub goes-past : (core : Core) (t n : ℕ) (turns : List Turn) (s to : State) (left : List Turn) →
    leg_goes core t n turns s ≡ Some (to, left) → leg_end core t n turns s ≡ Past to
goes-past core t zero turns s to left e = ap Past (both s to turns left e).0
goes-past core t (suc n) turns s to left e =
    let f = first-of core t n turns s to left (one_step core t turns s) refl e in
    ap (end_behind s (leg_end core t n)) f.made ∙ goes-past core t n f.rest f.next to left f.goes

pub other-is : (t u : ℕ) (s : State) → t + u ≡ 1 → other_of s t ≡ thread_of s u
other-is zero u s e = let one : u ≡ 1 = omega (arith, e) in ap (thread_of s) (sym one)
other-is (suc t) u s e =
    let one : suc t ≡ 1 = omega (arith, e) in
    let none : u ≡ 0 = omega (arith, e) in
    ap (other_of s) one ∙ ap (thread_of s) (sym none)

pub turned-round : (t u : ℕ) → t + u ≡ 1 → u + t ≡ 1
turned-round t u e = omega arith

abbrev among : List Spot → Object → FieldId → Bool
among spots o f = list_any (is_spot o f) spots

seen-alike : (core : Core) (f g : Leg) (s to : State) (left : List Turn) (spots : List Spot) → f.thread + g.thread ≡ 1 →
    (thread_of s f.thread).locks ≡ [] → (thread_of to f.thread).locks ≡ [] → ArePlain core s.store →
    leg_goes core f.thread f.steps f.turns s ≡ Some (to, left) →
    leg_stores core f.thread f.steps f.turns s ≡ Some spots → AreAlike core (among spots) g.thread s to
seen-alike core f g s to left spots threads free still plain goes stores =
    let stored = legs-store core f.thread f.steps f.turns s to left spots plain goes stores in
    let back = turned-round f.thread g.thread threads in
    record {
      thread =
          sym (other-is f.thread g.thread s threads)
          ∙ sym stored.1
          ∙ other-is f.thread g.thread to threads;
      locks =
          ap (λ (x : Thread). x.locks) (other-is g.thread f.thread s back)
          ∙ free
          ∙ sym still
          ∙ sym (ap (λ (x : Thread). x.locks) (other-is g.thread f.thread to back));
      stores = stored.0.alike;
    }

abbrev place_in : Thread → Option Place
place_in thread = option_and_then place_of (option_and_then next_of (slice_get thread.frames 0))

-- where it stops alone it stops behind the first leg, at the same place
pub stops-alike : (core : Core) (but : Object → FieldId → Bool) (u : ℕ) (at : State) (x y : Ended) →
    AreEndsAlike core but u x y → x ≡ Stopped at → (end : State) × (y ≡ Stopped end) × (place at u ≡ place end u)
stops-alike core but u at (Past a) y alike e = absurd cc
stops-alike core but u at (Stopped a) (Past b) alike e = absurd alike
stops-alike core but u at (Stopped a) (Stopped b) alike e =
    let same : a ≡ at = cc in
    (b, refl, ap (λ (s : State). place s u) (sym same) ∙ ap place_in alike.thread)

pub comes-alike : (core : Core) (but : Object → FieldId → Bool) (u : ℕ) (end : State) (x y : Ended) →
    AreEndsAlike core but u x y → x ≡ Past end → (last : State) × (y ≡ Past last)
comes-alike core but u end (Stopped a) y alike e = absurd cc
comes-alike core but u end (Past a) (Stopped b) alike e = absurd alike
comes-alike core but u end (Past a) (Past b) alike e = (b, refl)

abbrev alone_end : Core → Leg → State → Ended
alone_end core g s = leg_end core g.thread g.steps g.turns s

abbrev alone_reads : Core → Leg → State → List StartPath
alone_reads core g s = leg_reads core g.thread g.steps g.turns s

pub apart-confirmed : (core : Core) (f g : Leg) (s to end : State) (left : List Turn) (spots : List Spot) →
    f.thread + g.thread ≡ 1 →
    (thread_of s f.thread).locks ≡ [] → (thread_of to f.thread).locks ≡ [] → ArePlain core s.store →
    leg_goes core f.thread f.steps f.turns s ≡ Some (to, left) →
    leg_stores core f.thread f.steps f.turns s ≡ Some spots →
    DoesAvoid core (λ o x. list_any (is_spot o x) spots) g.thread g.steps g.turns s → alone_end core g s ≡ Past end →
    Confirmed (gathered (gathered [] (alone_reads core f s)) (alone_reads core g s)) (f ∷ g ∷ [])
    ≡ mark_by_run core (f ∷ g ∷ []) s
apart-confirmed core f g s to end left spots threads free still plain goes stores avoids ends =
    let alike = seen-alike core f g s to left spots threads free still plain goes stores in
    let last = comes-alike core (among spots) g.thread end (alone_end core g s) (alone_end core g to)
    (legs-end-alike core (among spots) g.thread g.steps g.turns s to alike avoids) ends in
    ap (λ (xs : List StartPath). Confirmed (gathered (gathered [] (alone_reads core f s)) xs) (f ∷ g ∷ []))
    (legs-read-alike core (among spots) g.thread g.steps g.turns s to alike avoids)
    ∙ said-both core f g s to last.0 (goes-past core f.thread f.steps f.turns s to left goes) last.1

pub apart-blocked : (core : Core) (f g : Leg) (s to at : State) (left : List Turn) (spots : List Spot) →
    f.thread + g.thread ≡ 1 →
    (thread_of s f.thread).locks ≡ [] → (thread_of to f.thread).locks ≡ [] → ArePlain core s.store →
    leg_goes core f.thread f.steps f.turns s ≡ Some (to, left) →
    leg_stores core f.thread f.steps f.turns s ≡ Some spots →
    DoesAvoid core (λ o x. list_any (is_spot o x) spots) g.thread g.steps g.turns s → alone_end core g s ≡ Stopped at →
    blocked_at g.thread (place at g.thread) ≡ mark_by_run core (f ∷ g ∷ []) s
apart-blocked core f g s to at left spots threads free still plain goes stores avoids ends =
    let alike = seen-alike core f g s to left spots threads free still plain goes stores in
    let last = stops-alike core (among spots) g.thread at (alone_end core g s) (alone_end core g to)
    (legs-end-alike core (among spots) g.thread g.steps g.turns s to alike avoids) ends in
    ap (λ (p : Option Place). blocked_at g.thread p) last.2
    ∙ said-second core f g s to last.0 (goes-past core f.thread f.steps f.turns s to left goes) last.1
