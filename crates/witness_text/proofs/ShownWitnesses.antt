-- The object of a warning in the JSON report shows the race of a confirmed mark.
use Rattle.std.proofs.Common.{◌≡◌, true, List, [], ◌∷◌, Some, codes, refl, sym, ap, subst, ◌∙◌}
use Rattle.serde_json.specs.Data.{Data, object, put, no_members}
use Rattle.serde_json.specs.Find.{get}
use Rattle.serde_json.proofs.OnLiterals.{serde_json_on_literals}
use Rattle.core_code.specs.declared.program.Program.{Program}
use Rattle.core_code.specs.Core.{Core}
use Rattle.core_code.specs.Program.{core as core_of}
use Rattle.access_domain.specs.declared.access.Access.{Access}
use Rattle.access_domain.specs.OutcomeRecords.{record_at}
use Rattle.access_paths.specs.declared.path.Path.{Path}
use Rattle.core_semantics.specs.declared.object.StartPath.{StartPath}
use Rattle.core_semantics.specs.Legs.{Leg}
use Rattle.core_ways.specs.Marks.{Confirmed, Said}
use Rattle.core_ways.specs.Stable.{is_lasting_root}
use Rattle.race_pairs.specs.declared.warning.Warning.{Warning}
use Rattle.race_pairs.specs.Pairs.{IsPair}
use Rattle.witness_build.specs.Replayed.{AreRight}
use Rattle.witness_build_laws.specs.Races.{RacesOn, Touches}
use Rattle.witness_build_laws.specs.Warned.{warning_mark}
use Rattle.race_report_parts.specs.Json.{mark_value, marked_values, side_members}
use Rattle.race_report_parts.specs.Texts.{path_text}
use Rattle.race_report_parts.specs.Told.{Sides, sides_of}
use Rattle.race_report_parts.specs.WitnessFiles.{file_of_run}
use Rattle.witness_text_files.specs.Files.{File}
use Rattle.witness_text_files.specs.Written.{data_of}
use Rattle.witness_text_files.proofs.ReadBack.{IsWithin, written-is-read}
use Rattle.witness_text.specs.Replaying.{IsRunOf, ShowsWitness}
use Rattle.witness_text.proofs.CellsFound.{cell_at}
use Rattle.witness_text.proofs.RunsNamed.{verdict-races}
use Rattle.witness_text.proofs.Warnings.{at-cell, sides-access, witness-named}
use Rattle.witness_text.proofs.WithinLimits.{witness-within}

-- the object of a warning with these two records and this mark
abbrev value_of : Core → Sides → Said → Data
value_of core sides said =
    object
    (side_members core sides.first
    (put (codes "mark") (mark_value core sides said)
    (put (codes "with") (object (side_members core sides.partner no_members)) no_members)))

mark-found : (core : Core) (sides : Sides) (said : Said) →
    get (codes "mark") (value_of core sides said) ≡ Some (mark_value core sides said)
unfolding serde_json_on_literals
mark-found core sides said = refl

witness-found : (core : Core) (sides : Sides) (objects : List StartPath) (a b : Leg) →
    get (codes "witness") (mark_value core sides (Confirmed objects (a ∷ b ∷ []))) ≡
    Some (data_of (file_of_run core sides objects a b))
unfolding serde_json_on_literals
witness-found core sides objects a b = refl

pub witness-shown : (p : Program) (w : Warning) (sides : Sides) (objects : List StartPath) (a b : Leg) (r : Access) →
    IsPair (core_of p) w → sides_of (core_of p) w ≡ Some sides → record_at (core_of p) w.entry w.access ≡ Some r →
    is_lasting_root r.path.root ≡ true → warning_mark (core_of p) w ≡ Confirmed objects (a ∷ b ∷ []) →
    AreRight (core_of p) w objects → RacesOn (core_of p) w objects (a ∷ b ∷ []) r.path →
    ShowsWitness (core_of p) w r.path
witness-shown p w sides objects a b r pair there at lasts confirmed right race =
    let core : Core = core_of p in
    let same : r ≡ sides.first.access = sides-access core w sides r there at in
    let path : Path = sides.first.access.path in
    let file : File = file_of_run core sides objects a b in
    let touches : Touches race.end 0 path = subst (λ (x : Access). Touches race.end 0 x.path) same race.entry in
    let run : IsRunOf core file w.entry w.partner objects (cell_at path touches.field) =
    witness-named p w sides objects a b race.end pair there right race.runs
    (subst (λ (x : Access). is_lasting_root x.path.root ≡ true) same lasts) touches in
    let within : IsWithin file =
    witness-within core w sides.first.method sides.partner.method (path_text core path) objects a b confirmed in
    subst (λ (x : Access). ShowsWitness core w x.path) (sym same)
    (record {
      value = value_of core sides (warning_mark core w);
      mark = mark_value core sides (warning_mark core w);
      witness = data_of file;
      file = file;
      objects = objects;
      cell = cell_at path touches.field;
      reported = ap (marked_values core (warning_mark core w)) there;
      is_mark = mark-found core sides (warning_mark core w);
      is_witness = ap (λ (s : Said). get (codes "witness") (mark_value core sides s)) confirmed
          ∙ witness-found core sides objects a b;
      is_file = written-is-read file within;
      has_path = refl;
      is_cell = record { object = refl; field = touches.last };
      is_run = run;
      race = subst (λ (x : Access). RacesOn core w objects (a ∷ b ∷ []) x.path) same race;
      replays =
          verdict-races core file w.entry w.partner objects (cell_at path touches.field) race.end run race.runs
          race.race (at-cell race.end path touches);
    })

-- the same of legs that are two
pub legs-shown : (p : Program) (w : Warning) (sides : Sides) (objects : List StartPath) (legs : List Leg) (r : Access) →
    IsPair (core_of p) w → sides_of (core_of p) w ≡ Some sides → record_at (core_of p) w.entry w.access ≡ Some r →
    is_lasting_root r.path.root ≡ true → warning_mark (core_of p) w ≡ Confirmed objects legs →
    AreRight (core_of p) w objects → RacesOn (core_of p) w objects legs r.path → ShowsWitness (core_of p) w r.path
legs-shown p w sides objects legs r pair there at lasts confirmed right race =
    witness-shown p w sides objects race.first race.second r pair there at lasts
    (confirmed ∙ ap (λ (ls : List Leg). Confirmed objects ls) race.are) right
    (subst (λ (ls : List Leg). RacesOn (core_of p) w objects ls r.path) race.are race)
