-- Each confirmed warning races.
use Rattle.std.proofs.Common.{◌≡◌, List, Some, refl, sym, subst, ◌∙◌, inl, inr}
use Rattle.std.specs.List.{Contains}
use Rattle.access_domain.specs.declared.access.Access.{Access}
use Rattle.access_domain.specs.OutcomeRecords.{record_at}
use Rattle.core_code.specs.declared.program.Program.{Program}
use Rattle.core_code.specs.Core.{Core}
use Rattle.core_code.specs.Program.{core as core_of}
use Rattle.core_semantics.specs.declared.object.Start.TheVariants.{All}
use Rattle.core_semantics.specs.declared.object.StartPath.{StartPath}
use Rattle.core_semantics.specs.Legs.{Leg}
use Rattle.core_semantics.specs.Runs.{begun, given_to}
use Rattle.core_ways.specs.Marks.{Confirmed}
use Rattle.core_ways.specs.Stable.{IsStable}
use Rattle.race_pairs.specs.declared.warning.Warning.{Warning}
use Rattle.race_pairs.specs.Warnings.{warnings}
use Rattle.core_ways_laws.proofs.WayEnds.{way-ends}
use Rattle.core_ways_laws.specs.Places.{IsStore}
use Rattle.core_ways_laws.specs.QuietEntries.{quietness_of}
use Rattle.core_ways_laws.proofs.Entries.{empty-store}
use Rattle.core_ways_laws.proofs.Legs.{leg-leads}
use Rattle.witness_build_laws.specs.Warned.{warning_mark}
use Rattle.witness_build_laws.specs.Races.{RacesOn}
use Rattle.witness_build_laws.proofs.ConfirmedRun.{IsFound, IsReady, confirmed-found, confirmed-race}

ready : (p : Program) (w : Warning) (objects : List StartPath) (legs : List Leg)
    (found : IsFound (core_of p) w objects legs) → IsReady (core_of p) w found.a found.b found.f found.g
ready p w objects legs found =
    let core : Core = core_of p in
    let stable_partner : IsStable core w.entry w.partner found.b.path =
    subst (IsStable core w.entry w.partner) (sym found.conflict.path) found.stable in
    record {
      Good = IsStore core (quietness_of core w.entry w.partner);
      begins =
          empty-store core (quietness_of core w.entry w.partner) (begun core w.entry w.partner All).store (λ q. refl)
          (λ o f. refl);
      entry = found.entry;
      partner = found.partner;
      of_entry = found.of_entry;
      of_partner = found.of_partner;
      conflict = found.conflict;
      ends = λ m method i r s t there at entered free.
          way-ends p m method i r (given_to t method) s t there at entered free;
      leads_entry = λ store arrival good leads.
          leg-leads p w.entry w.partner w.entry found.f w.access found.a 0 (inl refl) found.entry found.of_entry
          found.stable store arrival good leads;
      leads_partner = λ store arrival good leads.
          leg-leads p w.entry w.partner w.partner found.g w.partner_access found.b 1 (inr refl) found.partner
          found.of_partner stable_partner store arrival good leads;
    }

pub confirmed-warnings-race : (p : Program) (w : Warning) (objects : List StartPath) (legs : List Leg) (r : Access) →
    Contains (warnings (core_of p)) w → warning_mark (core_of p) w ≡ Confirmed objects legs →
    record_at (core_of p) w.entry w.access ≡ Some r → RacesOn (core_of p) w objects legs r.path
confirmed-warnings-race p w objects legs r listed is at =
    let found : IsFound (core_of p) w objects legs = confirmed-found (core_of p) w objects legs listed is in
    let race : RacesOn (core_of p) w objects legs found.a.path =
    confirmed-race (core_of p) w found.a found.b found.f found.g objects legs (ready p w objects legs found) found.by in
    let same : found.a ≡ r = let both : Some found.a ≡ Some r = sym found.of_entry ∙ at in cc in
    subst (λ (x : Access). RacesOn (core_of p) w objects legs x.path) same race
