-- The file of a confirmed warning's witness, whoever wrote it and however it was read, has the verdict of a race.
use Rattle.std.proofs.Common.{◌≡◌, ℕ, ◌≤◌, Bool, true, ◌&&◌, List, [], ◌∷◌, Option, None, Some, map, length, refl}
use Rattle.std.proofs.Common.{sym, ap, subst, ◌∙◌}
use Rattle.std.proofs.lemmas.Bool.{eq-eqb}
use Rattle.std.proofs.lemmas.Option.{same_Some}
use Rattle.std.specs.List.{Contains}
use Rattle.std.specs.Option.{option_map}
use Rattle.std.specs.Prelude.{Ok, Result}
use Rattle.serde_json.specs.Written.{compact_text}
use Rattle.racer_base.specs.declared.limits.TheConstants.{MAX_PATH_FIELDS}
use Rattle.core_code.specs.declared.program.Program.{Program}
use Rattle.core_code.specs.Calls.{method_at}
use Rattle.core_code.specs.Core.{Core, Method}
use Rattle.core_code.specs.Program.{core as core_of}
use Rattle.access_domain.specs.declared.access.Access.{Access}
use Rattle.access_domain.specs.OutcomeRecords.{record_at}
use Rattle.access_paths.specs.declared.path.Path.{Path}
use Rattle.access_paths.specs.Paths.{same_field}
use Rattle.core_semantics.specs.declared.object.Object.TheVariants.{Start as StartOf}
use Rattle.core_semantics.specs.declared.object.Start.TheVariants.{Only}
use Rattle.core_semantics.specs.declared.object.StartPath.{StartPath}
use Rattle.core_semantics.specs.Legs.{Leg, run}
use Rattle.core_semantics.specs.Runs.{begun}
use Rattle.core_semantics.specs.Same.{same_object-itself}
use Rattle.core_semantics.specs.State.{State}
use Rattle.core_semantics_kinds.specs.Reached.{is_cell, roots_of}
use Rattle.core_semantics_kinds.proofs.CellsRight.{cells-right}
use Rattle.core_ways.specs.Marks.{Confirmed}
use Rattle.core_ways.specs.Stable.{is_lasting_root}
use Rattle.core_ways_laws.specs.Meets.{base_path}
use Rattle.core_ways_laws.specs.Quiet.{start_path}
use Rattle.core_ways_laws.proofs.ShortPaths.{short-path}
use Rattle.race_pairs.specs.declared.warning.Warning.{Warning}
use Rattle.race_pairs.specs.Pairs.{IsPair}
use Rattle.race_pairs.specs.Warnings.{warnings}
use Rattle.race_report_parts.specs.Marks.{start_text}
use Rattle.race_report_parts.specs.Places.{OwnedRecord}
use Rattle.race_report_parts.specs.Texts.{path_text}
use Rattle.race_report_parts.specs.Told.{Side, Sides, side_from, side_of, sides_from, sides_of}
use Rattle.race_report_parts.specs.WitnessFiles.{file_named, file_of_run}
use Rattle.witness_build.specs.Replayed.{AreRight, CanReplay}
use Rattle.witness_build_laws.specs.Races.{RacesOn, Touches}
use Rattle.witness_build_laws.specs.Warned.{warning_mark}
use Rattle.witness_build_laws.proofs.ConfirmedRun.{IsFound, confirmed-found}
use Rattle.witness_text_files.specs.declared.fault.Field.{Field}
use Rattle.witness_text_files.specs.Answers.{IsFileOf}
use Rattle.witness_text_files.specs.Files.{File, file_of}
use Rattle.witness_text_files.specs.Written.{data_of}
use Rattle.witness_text_files.proofs.ReadBack.{IsWithin, written-is-read}
use Rattle.witness_text_files.proofs.WholeFile.{text-read}
use Rattle.witness_text_names.specs.declared.cells.Cell.{Cell}
use Rattle.witness_text.specs.declared.verdict.Verdict.TheVariants.{Races}
use Rattle.witness_text.specs.Verdicts.{are_at, is_access_in, verdict}
use Rattle.witness_text.specs.Replaying.{IsRunOf, RacesIn}
use Rattle.witness_text.proofs.CellsFound.{cell_at}
use Rattle.witness_text.proofs.EntriesFound.{entry-is-analysed}
use Rattle.witness_text.proofs.RunsNamed.{verdict-races, written-named}
use Rattle.witness_text.proofs.WithinLimits.{witness-within}

same-method : (o : Option Method) (f g : Method) → o ≡ Some f → o ≡ Some g → f ≡ g
same-method o f g is_f is_g = let both : Some f ≡ Some g = sym is_f ∙ is_g in cc

-- ---- the two records of a warning

abbrev method_in : Option Side → Option Method
method_in o = option_map (λ (s : Side). s.method) o

side-method : (core : Core) (o : Option Method) (held : Option OwnedRecord) (side : Side) →
    side_from core o held ≡ Some side →
    o ≡ Some side.method
side-method core None held side is = absurd cc
side-method core (Some m) None side is = absurd cc
side-method core (Some m) (Some held) side is = ap method_in is

abbrev access_in : Option Side → Option Access
access_in o = option_map (λ (s : Side). s.access) o

side-access : (core : Core) (o : Option Method) (held : OwnedRecord) (side : Side) →
    side_from core o (Some held) ≡ Some side → held.access ≡ side.access
side-access core None held side is = absurd cc
side-access core (Some m) held side is =
    let both : Some held.access ≡ Some side.access = ap access_in is in cc

-- both sides of a warning are there
pub record HasSides (core : Core) (w : Warning) (sides : Sides) : Type 0 where
  pub first : side_of core w.entry w.access ≡ Some sides.first
  pub partner : side_of core w.partner w.partner_access ≡ Some sides.partner

has-sides : (core : Core) (w : Warning) (sides : Sides) → sides_of core w ≡ Some sides → HasSides core w sides
has-sides core w sides is =
    by (side_of core w.entry w.access) (side_of core w.partner w.partner_access) refl refl is
  where
    by : (o q : Option Side) → side_of core w.entry w.access ≡ o → side_of core w.partner w.partner_access ≡ q →
        sides_from o q ≡ Some sides → HasSides core w sides
    by None q e f h = absurd cc
    by (Some a) None e f h = absurd cc
    by (Some a) (Some b) e f h =
        record {
          first = e ∙ ap (option_map (λ (s : Sides). s.first)) h;
          partner = f ∙ ap (option_map (λ (s : Sides). s.partner)) h;
        }

-- the first is the record of the warning's entry
pub sides-access : (core : Core) (w : Warning) (sides : Sides) (a : Access) → sides_of core w ≡ Some sides →
    record_at core w.entry w.access ≡ Some a → a ≡ sides.first.access
sides-access core w sides a is at =
    side-access core (method_at core w.entry) (record { method = w.entry; access = a }) sides.first
    (sym (ap (λ (o : Option Access). side_from core (method_at core w.entry)
    (option_map (λ (r : Access). let held : OwnedRecord = record { method = w.entry; access = r } in held) o)) at)
    ∙ (has-sides core w sides is).first)

-- the root of a confirmed warning's path is one that both threads have
pub confirmed-lasts : (core : Core) (w : Warning) (objects : List StartPath) (legs : List Leg) (a : Access) →
    Contains (warnings core) w → warning_mark core w ≡ Confirmed objects legs →
    record_at core w.entry w.access ≡ Some a → is_lasting_root a.path.root ≡ true
confirmed-lasts core w objects legs a listed is at =
    let found : IsFound core w objects legs = confirmed-found core w objects legs listed is in
    let same : found.a ≡ a = let both : Some found.a ≡ Some a = sym found.of_entry ∙ at in cc in
    subst (λ (x : Access). is_lasting_root x.path.root ≡ true) same found.stable.root

-- the file of a witness names the warning's entries, right objects, and the cell of its path
pub witness-named : (p : Program) (w : Warning) (sides : Sides) (objects : List StartPath) (a b : Leg)
    (end : State) → IsPair (core_of p) w → sides_of (core_of p) w ≡ Some sides → AreRight (core_of p) w objects →
    run (core_of p) (a ∷ b ∷ []) (begun (core_of p) w.entry w.partner (Only objects)) ≡ Some end →
    is_lasting_root sides.first.access.path.root ≡ true → (touches : Touches end 0 sides.first.access.path) →
    IsRunOf (core_of p) (file_of_run (core_of p) sides objects a b) w.entry w.partner objects
    (cell_at sides.first.access.path touches.field)
witness-named p w sides objects a b end pair there right came lasts touches =
    let core : Core = core_of p in
    let f : Method = right.entry in
    let g : Method = right.partner in
    let path : Path = sides.first.access.path in
    let text : List ℕ = path_text core path in
    let texts : List (List ℕ) = map (start_text core) objects in
    let cell : Cell = cell_at path touches.field in
    let has : HasSides core w sides = has-sides core w sides there in
    let first : pair.of_entry.method ≡ f =
    same-method (method_at core w.entry) pair.of_entry.method f pair.of_entry.is right.is_entry in
    let second : pair.of_partner.method ≡ g =
    same-method (method_at core w.partner) pair.of_partner.method g pair.of_partner.is right.is_partner in
    let told_first : f ≡ sides.first.method =
    same-method (method_at core w.entry) f sides.first.method right.is_entry
    (side-method core (method_at core w.entry) _ sides.first has.first) in
    let told_second : g ≡ sides.partner.method =
    same-method (method_at core w.partner) g sides.partner.method right.is_partner
    (side-method core (method_at core w.partner) _ sides.partner has.partner) in
    let entry_f : f.entry ≡ true = ap (λ (m : Method). m.entry) (sym first) ∙ pair.of_entry.entry in
    let entry_g : g.entry ≡ true = ap (λ (m : Method). m.entry) (sym second) ∙ pair.of_partner.entry in
    let class : f.class ≡ g.class =
    ap (λ (m : Method). m.class) (sym first) ∙ pair.of_entry.class ∙ sym pair.of_partner.class
    ∙ ap (λ (m : Method). m.class) second in
    let limit : length path.fields ≤ MAX_PATH_FIELDS =
    subst (λ (r : Access). length r.path.fields ≤ MAX_PATH_FIELDS)
    (sides-access core w sides pair.first there pair.of_entry.has)
    (short-path core w.entry w.access pair.first pair.of_entry.has) in
    let is_right_cell : is_cell core (roots_of f g) (start_path (base_path path)) touches.field ≡ true =
    cells-right p w.entry w.partner f g right.is_entry right.is_partner
    (entry-is-analysed p w.entry f right.is_entry entry_f) (entry-is-analysed p w.partner g right.is_partner entry_g)
    class (Only objects) (a ∷ b ∷ []) end came 0 (start_path (base_path path)) touches.field touches.kind touches.is in
    subst (λ (m : Method). IsRunOf core (file_named core m sides.partner.method text texts a b) w.entry w.partner
    objects cell)
    told_first
    (subst (λ (m : Method). IsRunOf core (file_named core f m text texts a b) w.entry w.partner objects cell)
    told_second
    (written-named p w.entry w.partner f g path touches.field objects a b right.is_entry right.is_partner entry_f
    entry_g class right.right limit touches.last lasts is_right_cell))

-- the threads are at the cell that they touch
pub at-cell : (end : State) (p : Path) (touches : Touches end 0 p) →
    are_at (Some (cell_at p touches.field)) end ≡ true
at-cell end p touches =
    ap (is_access_in (cell_at p touches.field)) touches.is
    ∙ ap (λ (b : Bool). b && same_field touches.field touches.field)
    (same_object-itself (StartOf (start_path (base_path p))))
    ∙ eq-eqb touches.field.0 touches.field.0 refl

pub witness-replays : (p : Program) (w : Warning) (sides : Sides) (objects : List StartPath) (a b : Leg)
    (end : State) → IsPair (core_of p) w → sides_of (core_of p) w ≡ Some sides → AreRight (core_of p) w objects →
    run (core_of p) (a ∷ b ∷ []) (begun (core_of p) w.entry w.partner (Only objects)) ≡ Some end →
    RacesIn end sides.first.access.path → verdict (core_of p) (file_of_run (core_of p) sides objects a b) ≡ Races
witness-replays p w sides objects a b end pair there right came in_cell =
    verdict-races (core_of p) (file_of_run (core_of p) sides objects a b) w.entry w.partner objects
    (cell_at sides.first.access.path in_cell.touches.field) end
    (witness-named p w sides objects a b end pair there right came in_cell.lasts in_cell.touches) came in_cell.race
    (at-cell end sides.first.access.path in_cell.touches)

abbrev the_file : File → Result File Field
the_file f = Ok f

same-Ok : (a b : File) → the_file a ≡ the_file b → a ≡ b
same-Ok a b is = cc

-- bytes are one file
pub one-file : (bytes : List ℕ) (a b : File) → IsFileOf bytes a → IsFileOf bytes b → a ≡ b
one-file bytes a b is_a is_b =
    let value : Some is_a.0 ≡ Some is_b.0 = sym is_a.1.1 ∙ is_b.1.1 in
    let same : is_a.0 ≡ is_b.0 = same_Some is_a.0 is_b.0 value in
    same-Ok a b (sym is_a.2 ∙ ap file_of same ∙ is_b.2)

-- what the law of written witnesses says of a warning
abbrev pub ReplaysRight : Core → Warning → Sides → Type 0
ReplaysRight core w sides =
    (objects : List StartPath) (a b : Leg) (end : State) → AreRight core w objects →
    run core (a ∷ b ∷ []) (begun core w.entry w.partner (Only objects)) ≡ Some end →
    RacesIn end sides.first.access.path → verdict core (file_of_run core sides objects a b) ≡ Races

pub can-replay : (core : Core) (w : Warning) (sides : Sides) (objects : List StartPath) (a b : Leg) →
    Contains (warnings core) w → sides_of core w ≡ Some sides → warning_mark core w ≡ Confirmed objects (a ∷ b ∷ []) →
    ReplaysRight core w sides → CanReplay core w objects (a ∷ b ∷ []) →
    verdict core (file_of_run core sides objects a b) ≡ Races
can-replay core w sides objects a b listed there confirmed replays can =
    let race : RacesOn core w objects (a ∷ b ∷ []) can.race.access.path = can.race.race in
    let same : can.race.access ≡ sides.first.access =
    sides-access core w sides can.race.access there can.race.is_record in
    replays objects a b race.end can.right race.runs
    (record {
      race = race.race;
      lasts =
          subst (λ (r : Access). is_lasting_root r.path.root ≡ true) same
          (confirmed-lasts core w objects (a ∷ b ∷ []) can.race.access listed confirmed can.race.is_record);
      touches = subst (λ (r : Access). Touches race.end 0 r.path) same race.entry;
    })

-- what is said of a file that is read: it has the path, and races
abbrev IsRead : Core → Sides → File → Type 0
IsRead core sides f = (f.path ≡ Some (path_text core sides.first.access.path)) × (verdict core f ≡ Races)

pub bytes-replay : (core : Core) (w : Warning) (sides : Sides) (objects : List StartPath) (a b : Leg)
    (bytes : List ℕ) (f : File) → verdict core (file_of_run core sides objects a b) ≡ Races →
    IsFileOf bytes (file_of_run core sides objects a b) → IsFileOf bytes f → IsRead core sides f
bytes-replay core w sides objects a b bytes f races written read =
    subst (IsRead core sides) (sym (one-file bytes f (file_of_run core sides objects a b) read written)) (refl, races)

-- what is read of the text that is written for it
pub text-replays : (core : Core) (w : Warning) (sides : Sides) (objects : List StartPath) (a b : Leg) (f : File) →
    verdict core (file_of_run core sides objects a b) ≡ Races →
    warning_mark core w ≡ Confirmed objects (a ∷ b ∷ []) →
    IsFileOf (compact_text (data_of (file_of_run core sides objects a b))) f → IsRead core sides f
text-replays core w sides objects a b f races confirmed read =
    let file : File = file_of_run core sides objects a b in
    let within : IsWithin file =
    witness-within core w sides.first.method sides.partner.method (path_text core sides.first.access.path) objects a b
    confirmed in
    bytes-replay core w sides objects a b (compact_text (data_of file)) f races
    (data_of file, (read.1.0, text-read file within), written-is-read file within) read
