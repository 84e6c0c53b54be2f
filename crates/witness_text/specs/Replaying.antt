-- A contract of a public call rests on this: that the witnesses of a JSON report replay, and what races they show.
use Rattle.std.specs.Prelude.{◌≡◌, IsTrue, List, [], ◌∷◌, Some, Ok, codes}
use Rattle.std.specs.List.{Contains}
use Rattle.serde_json.specs.Data.{Data}
use Rattle.serde_json.specs.Find.{get}
use Rattle.racer_base.specs.declared.ids.MethodId.{MethodId}
use Rattle.access_paths.specs.declared.path.Path.{Path}
use Rattle.access_paths.specs.Paths.{last_of}
use Rattle.core_code.specs.Core.{Core, Method}
use Rattle.access_domain.specs.declared.access.Access.{Access}
use Rattle.access_domain.specs.OutcomeRecords.{record_at}
use Rattle.core_semantics.specs.declared.object.Object.TheVariants.{Start as StartOf}
use Rattle.core_semantics.specs.declared.object.StartPath.{StartPath}
use Rattle.core_semantics.specs.Runs.{races}
use Rattle.core_semantics.specs.State.{State}
use Rattle.core_ways.specs.Marks.{IsWhole}
use Rattle.core_ways.specs.Stable.{IsStable, is_lasting_root}
use Rattle.core_ways_laws.specs.Meets.{base_path}
use Rattle.core_ways_laws.specs.Quiet.{start_path}
use Rattle.race_pairs.specs.declared.warning.Warning.{Warning}
use Rattle.race_pairs.specs.Warnings.{warnings}
use Rattle.witness_build_laws.specs.Races.{RacesOn, Touches}
use Rattle.witness_build_laws.specs.Warned.{pair_of, warning_mark}
use Rattle.race_report_parts.specs.Json.{mark_value, warning_values}
use Rattle.race_report_parts.specs.Texts.{path_text}
use Rattle.race_report_parts.specs.Told.{Sides, sides_of}
use Rattle.witness_text_files.specs.Files.{File, file_of}
use Rattle.witness_text_names.specs.declared.cells.Cell.{Cell}
use Rattle.witness_text_names.specs.declared.cells.NamedPath.TheVariants.{Is}
use Rattle.witness_text_names.specs.declared.objects.Named.TheVariants.{All}
use Rattle.witness_text_names.specs.Names.{entry_named}
use Rattle.witness_text_names.specs.Objects.{objects_named, path_cell}
use Rattle.witness_text.specs.declared.verdict.Verdict.TheVariants.{Races}
use Rattle.witness_text.specs.Verdicts.{verdict}

-- the next steps of both threads race, in the cell of this path, whose root both threads have
pub record RacesIn (end : State) (p : Path) : Type 0 where
  pub race : IsTrue (races end)
  pub lasts : IsTrue (is_lasting_root p.root)
  pub touches : Touches end 0 p

-- a value is a witness file of version 2 with the text of this path, whose replay says that it races
abbrev pub IsRacing : Core → Path → Data → Type 0
IsRacing core p d =
    (file : File) × (file_of d ≡ Ok file) × (file.path ≡ Some (path_text core p)) × (verdict core file ≡ Races)

-- each member `witness` of a mark in the JSON report on a program is such a file, with the path of the warning
abbrev pub DoWitnessesReplay : Core → Type 0
DoWitnessesReplay core =
    (w : Warning) (sides : Sides) (d : Data) → Contains (warnings core) w → sides_of core w ≡ Some sides →
    get (codes "witness") (mark_value core sides (warning_mark core w)) ≡ Some d →
    IsRacing core sides.first.access.path d

-- the cell of a path: its last field, in the object of the path before it
pub record IsCellOf (p : Path) (cell : Cell) : Type 0 where
  pub object : cell.object ≡ StartOf (start_path (base_path p))
  pub field : last_of p.fields ≡ Some cell.field

-- whoever replays a file runs these two entries, from these objects, and looks for a race in this cell
pub record IsRunOf (core : Core) (file : File) (m1 m2 : MethodId) (objects : List StartPath) (cell : Cell) : Type 0
  where
    pub entry : Method
    pub partner : Method
    pub is_entry : entry_named core file.class file.first_entry ≡ Some (m1.0, entry)
    pub is_partner : entry_named core file.class file.second_entry ≡ Some (m2.0, partner)
    pub are_objects : objects_named core entry partner file.objects ≡ All objects
    pub is_path : path_cell core entry partner file.path ≡ Is cell

-- The object of a warning in the JSON report has a mark with the member `witness`, which is a witness file of version 2
-- with the text of this path. Whoever replays it runs the warning's entries from these objects by the file's legs, and
-- that run ends in a race in the cell of this path.
pub record ShowsWitness (core : Core) (w : Warning) (p : Path) : Type 0 where
  pub value : Data
  pub mark : Data
  pub witness : Data
  pub file : File
  pub objects : List StartPath
  pub cell : Cell
  pub reported : warning_values core w ≡ value ∷ []
  pub is_mark : get (codes "mark") value ≡ Some mark
  pub is_witness : get (codes "witness") mark ≡ Some witness
  pub is_file : file_of witness ≡ Ok file
  pub has_path : file.path ≡ Some (path_text core p)
  pub is_cell : IsCellOf p cell
  pub is_run : IsRunOf core file w.entry w.partner objects cell
  pub race : RacesOn core w objects (file.first ∷ file.second ∷ []) p
  pub replays : verdict core file ≡ Races

-- each warning whose path is stable in both methods and whose two ways are whole has such an object
abbrev pub DoShowWitnesses : Core → Type 0
DoShowWitnesses core =
    (w : Warning) (r : Access) → Contains (warnings core) w → record_at core w.entry w.access ≡ Some r →
    IsStable core w.entry w.partner r.path → IsWhole core (pair_of w) → ShowsWitness core w r.path
