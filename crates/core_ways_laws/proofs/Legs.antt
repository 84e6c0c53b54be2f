-- The legs of a warning end at the accesses of its records.
use Rattle.std.proofs.Common.{◌≡◌, ℕ, true, ◌⊎◌, Option, Some, sym, subst, ◌∙◌}
use Rattle.racer_base.specs.declared.ids.MethodId.{MethodId}
use Rattle.core_code.specs.declared.program.Program.{Program}
use Rattle.core_code.specs.Calls.{is_analysed, method_at}
use Rattle.core_code.specs.Core.{Core, Method}
use Rattle.core_code.specs.Program.{core}
use Rattle.access_domain.specs.declared.access.Access.{Access}
use Rattle.access_domain.specs.Summaries.{known_of}
use Rattle.access_domain.specs.OutcomeRecords.{record_at}
use Rattle.access_domain.specs.Findings.{Whole}
use Rattle.access_domain.proofs.KnownMethods.{FoundAt, found_at, known_is_analysed}
use Rattle.access_domain.proofs.Members.{in_at}
use Rattle.core_semantics.specs.Runs.{given_to}
use Rattle.core_semantics.specs.State.{Store}
use Rattle.core_ways.specs.Stable.{IsStable}
use Rattle.core_ways_laws.specs.Arrivals.{Arrival, arrival_of}
use Rattle.core_ways_laws.specs.Kept.{AreMet, IsEntered, IsMet}
use Rattle.core_ways_laws.specs.Meets.{DoesMeet, base_path, base_value}
use Rattle.core_ways_laws.specs.Names.{entry_naming}
use Rattle.core_ways_laws.specs.Places.{IsStore, start_object}
use Rattle.core_ways_laws.specs.Quiet.{Quietness}
use Rattle.core_ways_laws.specs.QuietEntries.{quietness_of}
use Rattle.core_ways_laws.proofs.Entries.{entered-entry, hush-entry}
use Rattle.core_ways_laws.proofs.ProgramFacts.{is_right}
use Rattle.core_ways_laws.proofs.RankedArrivals.{arrivals-met}
use Rattle.core_ways_laws.proofs.ShortPaths.{short-record}
use Rattle.core_ways_laws.proofs.StableMeets.{stable-met}

same-method : (core : Core) (m : MethodId) (x y : Method) → method_at core m ≡ Some x → method_at core m ≡ Some y →
    x ≡ y
same-method core m x y a b = let same : Some x ≡ Some y = sym a ∙ b in cc

-- where the way to a record leads in a leg, the invariant holds, and the access is that of the record
pub leg-meets : (p : Program) (m1 m2 m : MethodId) (method : Method) (i : ℕ) (r : Access) (t : ℕ) →
    (m ≡ m1) ⊎ (m ≡ m2) → method_at (core p) m ≡ Some method → record_at (core p) m i ≡ Some r → (store : Store)
    (arrival : Arrival) → IsStore (core p) (quietness_of (core p) m1 m2) store →
    arrival_of (core p) m i (given_to t method) store ≡ Some arrival →
    IsStore (core p) (quietness_of (core p) m1 m2) arrival.at.store ×
    DoesMeet (core p) (quietness_of (core p) m1 m2) entry_naming r arrival
leg-meets p m1 m2 m method i r t which there at store arrival stored leads =
    let quiet : Quietness (core p) = quietness_of (core p) m1 m2 in
    let of : FoundAt (core p) m i r = found_at (core p) m i r at in
    let analysed : is_analysed (core p) m ≡ true =
    known_is_analysed (core p) m method (Whole of.found) there of.known in
    let met : AreMet (core p) quiet m (known_of (core p) m) (arrival_of (core p) m) = arrivals-met p quiet m analysed in
    let entered : IsEntered (core p) quiet entry_naming met.method (given_to t method) store =
    subst (λ (x : Method). IsEntered (core p) quiet entry_naming x (given_to t method) store)
    (same-method (core p) m method met.method there met.there)
    (entered-entry (core p) quiet t method store (is_right p m method there analysed).begins) in
    subst (λ (o : Option Arrival). IsMet (core p) quiet entry_naming r o) leads
    (met.meets of.found of.known entry_naming (given_to t method) store entered stored
    (hush-entry (core p) m1 m2 m of.found which of.known) i r of.has)

-- where its path is stable, the base is the object of the path without its last field at the begin of the run
pub leg-leads : (p : Program) (m1 m2 m : MethodId) (method : Method) (i : ℕ) (r : Access) (t : ℕ) →
    (m ≡ m1) ⊎ (m ≡ m2) → method_at (core p) m ≡ Some method → record_at (core p) m i ≡ Some r →
    IsStable (core p) m1 m2 r.path → (store : Store) (arrival : Arrival) →
    IsStore (core p) (quietness_of (core p) m1 m2) store →
    arrival_of (core p) m i (given_to t method) store ≡ Some arrival →
    IsStore (core p) (quietness_of (core p) m1 m2) arrival.at.store ×
    (base_value r.kind arrival.at ≡ start_object (base_path r.path))
leg-leads p m1 m2 m method i r t which there at stable store arrival stored leads =
    let meets = leg-meets p m1 m2 m method i r t which there at store arrival stored leads in
    let of : FoundAt (core p) m i r = found_at (core p) m i r at in (
      meets.0,
      stable-met (core p) m1 m2 r arrival meets.1 stable
          (short-record (core p) m of.found r of.known (in_at of.found.records i r of.has)),
    )
