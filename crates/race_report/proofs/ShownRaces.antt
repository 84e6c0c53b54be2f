-- The lines of a confirmed warning show its race.
use Rattle.std.proofs.Common.{◌≡◌, ◌++◌, ℕ, Bool, true, false, List, [], ◌∷◌, Some, Contains, codes, nat_eq, refl, ap}
use Rattle.std.proofs.Common.{true≢false}
use Rattle.access_paths.specs.declared.path.Path.{Path}
use Rattle.core_code.specs.Core.{Core}
use Rattle.access_domain.specs.declared.access.Access.{Access}
use Rattle.access_domain.specs.OutcomeRecords.{record_at}
use Rattle.race_pairs.specs.declared.warning.Warning.{Warning}
use Rattle.race_pairs.specs.Warnings.{warnings}
use Rattle.core_semantics.specs.declared.object.StartPath.{StartPath}
use Rattle.core_semantics.specs.declared.object.Start.TheVariants.{All}
use Rattle.core_semantics.specs.Legs.{Leg}
use Rattle.core_semantics.specs.Runs.{begun}
use Rattle.core_ways.specs.Marks.{Said, Unnamed, Unstable, Unread, Long, Blocked, Confirmed, legs_of, objects_of}
use Rattle.witness_build_laws.specs.Warned.{pair_of, warning_mark}
use Rattle.race_report_parts.specs.Marks.{mark_word}
use Rattle.race_report_parts.specs.Told.{sides_of}
use Rattle.race_report_parts.specs.Report.{mark_lines, sides_lines}
use Rattle.witness_build_laws.specs.Headline.{AreConfirmed}
use Rattle.witness_build_laws.specs.Races.{RacesOn}
use Rattle.race_report.specs.Shown.{DoWholeWarningsRace, ShowsRace}

-- each confirmed warning races
abbrev pub DoConfirmedRace : Core → Type 0
DoConfirmedRace core =
    (w : Warning) (objects : List StartPath) (legs : List Leg) (r : Access) → Contains (warnings core) w →
    warning_mark core w ≡ Confirmed objects legs → record_at core w.entry w.access ≡ Some r →
    RacesOn core w objects legs r.path

shown : (core : Core) (w : Warning) (p : Path) (objects : List StartPath) (legs : List Leg) →
    warning_mark core w ≡ Confirmed objects legs → RacesOn core w objects legs p → ShowsRace core w p
shown core w p objects legs mark race =
    record {
      objects = objects;
      legs = legs;
      lines = ap (λ m. sides_lines core (sides_of core w) ++ mark_lines core m) mark;
      race = race;
    }

pub whole_shown : (core : Core) → AreConfirmed core → DoWholeWarningsRace core
whole_shown core confirmed = λ w r has there stable whole.
    let is = confirmed w r has there stable whole in
    shown core w r.path (objects_of core (legs_of core (pair_of w)) (begun core w.entry w.partner All))
    (legs_of core (pair_of w)) is.marked is.races

-- whether a text begins with `c`
begins_with_c : List ℕ → Bool
begins_with_c [] = false
begins_with_c (c ∷ cs) = nat_eq c 99

differs : (a b : List ℕ) → begins_with_c a ≡ false → begins_with_c b ≡ true → a ≡ b → true ≡ false
differs a b ea eb e = cc

by_word : (core : Core) (w : Warning) (p : Path) (mark : Said) → warning_mark core w ≡ mark →
    mark_word mark ≡ codes "confirmed" →
    ((objects : List StartPath) (legs : List Leg) → warning_mark core w ≡ Confirmed objects legs →
    RacesOn core w objects legs p) → ShowsRace core w p
unfolding begins_with_c
by_word core w p Unnamed is word race = absurd (true≢false (differs (codes "unnamed") _ refl refl word))
by_word core w p (Unstable before) is word race = absurd (true≢false (differs (codes "unstable") _ refl refl word))
by_word core w p (Unread at) is word race = absurd (true≢false (differs (codes "unread") _ refl refl word))
by_word core w p (Long steps) is word race = absurd (true≢false (differs (codes "long") _ refl refl word))
by_word core w p (Blocked thread at) is word race = absurd (true≢false (differs (codes "blocked") _ refl refl word))
by_word core w p (Confirmed objects legs) is word race = shown core w p objects legs is (race objects legs is)

pub printed_shown : (core : Core) → DoConfirmedRace core → (w : Warning) (r : Access) → Contains (warnings core) w →
    record_at core w.entry w.access ≡ Some r → mark_word (warning_mark core w) ≡ codes "confirmed" →
    ShowsRace core w r.path
printed_shown core race w r has there word =
    by_word core w r.path (warning_mark core w) refl word (λ objects legs mark. race w objects legs r has mark there)
