-- A confirmed warning's objects are right for its entries, and its run races, so its witness can be replayed.
use Rattle.std.proofs.Common.{◌≡◌, ℕ, Bool, true, false, not, ◌&&◌, ◌||◌, List, None, Some, is_none, sym, ap}
use Rattle.std.proofs.Common.{subst, map, option_map, slice_get, ◌∙◌}
use Rattle.std.proofs.lemmas.Option.{slice_get-map}
use Rattle.std.specs.Prelude.{IsTrue, Result, Ok, Err, IfOk}
use Rattle.std.specs.Global.{Global}
use Rattle.std.specs.List.{Contains, list_all}
use Rattle.std.specs.declared.vec.Vec.{Vec}
use Rattle.std.proofs.lemmas.Bool.{and_parts}
use Rattle.racer_base.specs.declared.ids.MethodId.{MethodId}
use Rattle.core_code.specs.declared.program.Program.{Program}
use Rattle.core_code.specs.Calls.{is_analysed, method_at}
use Rattle.core_code.specs.Core.{Core, Method}
use Rattle.core_code.specs.Facts.{is_checked, may_be_entry}
use Rattle.core_code.specs.Program.{core as core_of}
use Rattle.core_code.proofs.Members.{at_place, each}
use Rattle.race_pairs.specs.declared.warning.Warning.{Warning}
use Rattle.race_pairs.specs.Pairs.{IsPair}
use Rattle.race_pairs.specs.Warnings.{warnings}
use Rattle.race_pairs.proofs.WarningPairs.{warning_is_pair}
use Rattle.core_semantics.specs.declared.object.Start.TheVariants.{All}
use Rattle.core_semantics.specs.declared.object.StartPath.{StartPath}
use Rattle.core_semantics.specs.Legs.{Leg}
use Rattle.core_ways.specs.declared.mark.Mark.{Mark}
use Rattle.core_ways.specs.Marks.{Said, Unnamed, Unstable, Unread, Long, Blocked, Confirmed, legs_of, said_by}
use Rattle.witness_build_laws.specs.Warned.{pair_of, warning_mark}
use Rattle.witness_build_laws.proofs.ConfirmedRun.{IsFound, confirmed-found}
use Rattle.witness_build_laws.proofs.ConfirmedWarnings.{confirmed-warnings-race}
use Rattle.core_semantics_kinds.specs.Reached.{is_right, roots_of}
use Rattle.core_semantics_kinds.proofs.RightObjects.{objects-right}
use Rattle.witness_build.specs.Replayed.{AreRight, CanReplay, DoRace, HaveConfirmed, IfConfirmed}

-- an entry of a program is analysed
entry-analysed : (p : Program) (m : MethodId) (method : Method) → method_at (core_of p) m ≡ Some method →
    method.entry ≡ true → IsTrue (is_analysed (core_of p) m)
entry-analysed p m method there entry =
    let core : Core = core_of p in
    let may : may_be_entry core method ≡ true =
    each (may_be_entry core) core.methods method p.entries_analysed (at_place core.methods m.0 method there) in
    let none : is_none method.status ≡ true =
    (and_parts (is_none method.status) (is_checked core method.class)
    (sym (ap (λ (b : Bool). not b || (is_none method.status && is_checked core method.class)) entry) ∙ may)).0 in
    ap (λ o. elim o as (λ _. Bool) [ None ↦ false | Some x ↦ is_none x.status ]) there ∙ none

are-right : (p : Program) (w : Warning) (objects : List StartPath) (legs : List Leg) →
    Contains (warnings (core_of p)) w → warning_mark (core_of p) w ≡ Confirmed objects legs →
    AreRight (core_of p) w objects
are-right p w objects legs listed is =
    let core : Core = core_of p in
    let pair : IsPair core w = warning_is_pair core w listed in
    let f : Method = pair.of_entry.method in
    let g : Method = pair.of_partner.method in
    let found : IsFound core w objects legs = confirmed-found core w objects legs listed is in
    record {
      entry = f;
      partner = g;
      is_entry = pair.of_entry.is;
      is_partner = pair.of_partner.is;
      right =
          subst (λ (read : List StartPath). IsTrue (list_all (is_right core (roots_of f g)) read))
          (sym found.by.objects)
          (objects-right p w.entry w.partner f g pair.of_entry.is pair.of_partner.is
          (entry-analysed p w.entry f pair.of_entry.is pair.of_entry.entry)
          (entry-analysed p w.partner g pair.of_partner.is pair.of_partner.entry)
          (pair.of_entry.class ∙ sym pair.of_partner.class) All (legs_of core (pair_of w)));
    }

do-race : (p : Program) (w : Warning) (objects : List StartPath) (legs : List Leg) → Contains (warnings (core_of p)) w →
    warning_mark (core_of p) w ≡ Confirmed objects legs → DoRace (core_of p) w objects legs
do-race p w objects legs listed is =
    let found : IsFound (core_of p) w objects legs = confirmed-found (core_of p) w objects legs listed is in
    record {
      access = found.a;
      is_record = found.of_entry;
      race = confirmed-warnings-race p w objects legs found.a listed is found.of_entry;
    }

pub can-replay : (p : Program) (w : Warning) (objects : List StartPath) (legs : List Leg) →
    Contains (warnings (core_of p)) w → warning_mark (core_of p) w ≡ Confirmed objects legs →
    CanReplay (core_of p) w objects legs
can-replay p w objects legs listed is =
    record { right = are-right p w objects legs listed is; race = do-race p w objects legs listed is }

-- ---- a mark that is that of its warning

if-confirmed : (P : List StartPath → List Leg → Type 0) (said mark : Said) → said ≡ mark →
    ((objects : List StartPath) (legs : List Leg) → mark ≡ Confirmed objects legs → P objects legs) → IfConfirmed P said
if-confirmed P Unnamed mark is holds = tt
if-confirmed P (Unstable before) mark is holds = tt
if-confirmed P (Unread at) mark is holds = tt
if-confirmed P (Long steps) mark is holds = tt
if-confirmed P (Blocked thread at) mark is holds = tt
if-confirmed P (Confirmed objects legs) mark is holds = holds objects legs (sym is)

-- the mark at a place is that of the warning there
pub mark-there : (core : Core) (found : List Warning) (marks : List Mark) →
    map said_by marks ≡ map (warning_mark core) found → (k : ℕ) (w : Warning) (mark : Mark) → slice_get found k ≡ Some w
    → slice_get marks k ≡ Some mark →
    said_by mark ≡ warning_mark core w
mark-there core found marks are k w mark of is =
    let same : Some (said_by mark) ≡ Some (warning_mark core w) =
    sym (ap (option_map said_by) is)
    ∙ sym (slice_get-map said_by marks k)
    ∙ ap (λ (said : List Said). slice_get said k) are
    ∙ slice_get-map (warning_mark core) found k
    ∙ ap (option_map (warning_mark core)) of in
    cc

abbrev AreMarked : {E : Type 0} → Core → List Warning → Result (Vec Mark Global) E → Type 0
AreMarked core found r = IfOk r (λ marks. map said_by marks.items ≡ map (warning_mark core) found)

pub marked-right : {E : Type 0} (p : Program) (found : List Warning) (r : Result (Vec Mark Global) E) →
    AreMarked (core_of p) found r →
    IfOk r (λ marks. HaveConfirmed (core_of p) (λ w objects legs. AreRight (core_of p) w objects) found marks.items)
marked-right p found (Ok marks) are = λ k w mark of is listed.
    if-confirmed (λ objects legs. AreRight (core_of p) w objects) (said_by mark) (warning_mark (core_of p) w)
    (mark-there (core_of p) found marks.items are k w mark of is)
    (λ objects legs confirmed. are-right p w objects legs listed confirmed)
marked-right p found (Err error) are = are

pub marked-race : {E : Type 0} (p : Program) (found : List Warning) (r : Result (Vec Mark Global) E) →
    AreMarked (core_of p) found r →
    IfOk r (λ marks. HaveConfirmed (core_of p) (DoRace (core_of p)) found marks.items)
marked-race p found (Ok marks) are = λ k w mark of is listed.
    if-confirmed (DoRace (core_of p) w) (said_by mark) (warning_mark (core_of p) w)
    (mark-there (core_of p) found marks.items are k w mark of is)
    (λ objects legs confirmed. do-race p w objects legs listed confirmed)
marked-race p found (Err error) are = are
