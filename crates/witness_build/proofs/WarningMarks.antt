-- The mark of a warning, by its record.
use Rattle.std.proofs.Common.{◌≡◌, Bool, true, false, cond, List, Option, None, Some, sym, ap, ◌∙◌}
use Rattle.std.specs.Prelude.{Result, Ok, Err, IfOk}
use Rattle.access_paths.specs.declared.path.Path.{Path}
use Rattle.access_paths.specs.Paths.{is_some_root}
use Rattle.access_domain.specs.declared.access.Access.{Access}
use Rattle.access_domain.specs.declared.summary.Outcome.{Outcome}
use Rattle.access_domain.specs.Summaries.{outcomes_of}
use Rattle.access_domain.specs.Outcomes.{record_among}
use Rattle.access_domain.specs.OutcomeRecords.{record_at}
use Rattle.core_code.specs.Core.{Core}
use Rattle.core_ways.specs.declared.mark.Mark.{Mark}
use Rattle.core_ways.specs.Marks.{Pair, Said, Unnamed, Unstable, mark_by_calls, mark_of, said_by}
use Rattle.core_ways.specs.Stable.{unstable_prefix}
use Rattle.race_pairs.specs.declared.warning.Warning.{Warning}
use Rattle.witness_build_laws.specs.Warned.{pair_of, warning_mark}
use Rattle.witness_build.proofs.FoundPrefixes.{record-found}

abbrev mark_by : Core → Warning → Option Access → Said
mark_by core w o = elim o [ None ↦ Unnamed | Some r ↦ mark_of core (pair_of w) r.path ]

abbrev by_root : Core → Pair → Path → Bool → Said
by_root core w p b =
    cond b Unnamed
    (elim (unstable_prefix core w.m1 w.m2 p) as (λ _. Said) [ None ↦ mark_by_calls core w | Some q ↦ Unstable q ])

abbrev by_prefix : Core → Pair → Option Path → Said
by_prefix core w o = elim o [ None ↦ mark_by_calls core w | Some q ↦ Unstable q ]

-- the record of a warning, as it was found
pub found-record : (core : Core) (outcomes : List (Option Outcome)) (w : Warning) (found o : Option Access) →
    outcomes ≡ outcomes_of core → found ≡ record_among outcomes w.entry w.access → found ≡ o →
    record_at core w.entry w.access ≡ o
found-record core outcomes w found o are is same =
    sym (record-found core outcomes w.entry w.access are) ∙ sym is ∙ same

pub mark-none : (core : Core) (w : Warning) → record_at core w.entry w.access ≡ None → Unnamed ≡ warning_mark core w
mark-none core w none = sym (ap (mark_by core w) none)

pub mark-unnamed : (core : Core) (w : Warning) (r : Access) → record_at core w.entry w.access ≡ Some r →
    is_some_root r.path.root ≡ true → Unnamed ≡ warning_mark core w
mark-unnamed core w r at some = sym (ap (mark_by core w) at ∙ ap (by_root core (pair_of w) r.path) some)

pub mark-unstable : (core : Core) (w : Warning) (r : Access) (q : Path) → record_at core w.entry w.access ≡ Some r →
    is_some_root r.path.root ≡ false → unstable_prefix core w.entry w.partner r.path ≡ Some q →
    Unstable q ≡ warning_mark core w
mark-unstable core w r q at named found =
    sym (ap (mark_by core w) at ∙ ap (by_root core (pair_of w) r.path) named ∙ ap (by_prefix core (pair_of w)) found)

pub mark-stable : (core : Core) (w : Warning) (r : Access) → record_at core w.entry w.access ≡ Some r →
    is_some_root r.path.root ≡ false → unstable_prefix core w.entry w.partner r.path ≡ None →
    mark_by_calls core (pair_of w) ≡ warning_mark core w
mark-stable core w r at named none =
    sym (ap (mark_by core w) at ∙ ap (by_root core (pair_of w) r.path) named ∙ ap (by_prefix core (pair_of w)) none)

-- an answer that says one thing says what is equal to it
pub said-then : {E : Type 0} (r : Result Mark E) (a b : Said) → a ≡ b → IfOk r (λ mark. said_by mark ≡ a) →
    IfOk r (λ mark. said_by mark ≡ b)
said-then (Ok mark) a b same said = said ∙ same
said-then (Err error) a b same said = said
