-- The file of a warning whose objects are right and whose legs end in a race in its cell has the verdict of a race.
use Rattle.std.proofs.Common.{◌≡◌, ◌<◌, ◌≤◌, ◌^◌, ℕ, true, List, [], ◌∷◌, Option, Some, length, map, ap, ◌∙◌}
use Rattle.std.specs.List.{list_all}
use Rattle.racer_base.specs.declared.ids.ClassId.{ClassId}
use Rattle.racer_base.specs.declared.ids.FieldId.{FieldId}
use Rattle.racer_base.specs.declared.ids.MethodId.{MethodId}
use Rattle.racer_base.specs.declared.limits.TheConstants.{MAX_PATH_FIELDS}
use Rattle.core_code.specs.declared.program.Program.{Program}
use Rattle.core_code.specs.Calls.{method_at}
use Rattle.core_code.specs.Core.{Core, Method}
use Rattle.core_code.specs.Program.{core as core_of}
use Rattle.access_paths.specs.declared.path.Path.{Path}
use Rattle.access_paths.specs.Paths.{last_of}
use Rattle.access_paths.specs.Text.{name_at}
use Rattle.core_semantics.specs.declared.object.Start.TheVariants.{Only}
use Rattle.core_semantics.specs.declared.object.StartPath.{StartPath}
use Rattle.core_semantics.specs.Legs.{Leg, run}
use Rattle.core_semantics.specs.Runs.{begun, races}
use Rattle.core_semantics.specs.State.{State}
use Rattle.core_semantics_kinds.specs.Reached.{is_cell, is_right, roots_of}
use Rattle.core_ways.specs.Stable.{is_lasting_root}
use Rattle.core_ways_laws.specs.Meets.{base_path}
use Rattle.core_ways_laws.specs.Quiet.{start_path}
use Rattle.race_report_parts.specs.Marks.{start_text}
use Rattle.race_report_parts.specs.Texts.{class_names, path_text}
use Rattle.race_report_parts.specs.WitnessFiles.{entry_text, file_named}
use Rattle.witness_text.specs.declared.verdict.Verdict.TheVariants.{Races}
use Rattle.witness_text.specs.Replaying.{IsRunOf}
use Rattle.witness_text.specs.Verdicts.{are_at, entries_verdict, named_verdict, race_verdict, verdict}
use Rattle.witness_text_files.specs.Files.{File}
use Rattle.witness_text_names.specs.declared.cells.Cell.{Cell}
use Rattle.witness_text_names.specs.Names.{entry_named}
use Rattle.witness_text_names.specs.Objects.{named_path}
use Rattle.witness_text.proofs.Assembled.{objects-found}
use Rattle.witness_text.proofs.CellsFound.{cell-found, cell_at}
use Rattle.witness_text.proofs.EntriesFound.{entry-few, entry-found}
use Rattle.witness_text.proofs.Replayed.{all-named, legs-end, race-is}
use Rattle.access_domain.proofs.Members.{in_at}

-- the verdict where the entries are found, and the objects and the cell are named
pub verdict-races : (core : Core) (file : File) (m1 m2 : MethodId) (objects : List StartPath) (cell : Cell)
    (end : State) → IsRunOf core file m1 m2 objects cell →
    run core (file.first ∷ file.second ∷ []) (begun core m1 m2 (Only objects)) ≡ Some end → races end ≡ true →
    are_at (Some cell) end ≡ true → verdict core file ≡ Races
verdict-races core file m1 m2 objects cell end is came race at =
    (λ i. entries_verdict core file (is.is_entry i) (is.is_partner i))
    ∙ (λ i. named_verdict core file m1 m2 (is.are_objects i) (is.is_path i))
    ∙ legs-end core (race_verdict (Some cell)) 0 (file.first ∷ file.second ∷ []) (begun core m1 m2 (Only objects)) end
    came
    ∙ race-is (Some cell) end race at

-- the file names these methods and objects, and the cell of this path
pub written-named : (p : Program) (m1 m2 : MethodId) (f g : Method) (path : Path) (x : FieldId)
    (objects : List StartPath) (a b : Leg) →
    method_at (core_of p) m1 ≡ Some f → method_at (core_of p) m2 ≡ Some g → f.entry ≡ true → g.entry ≡ true →
    f.class ≡ g.class → list_all (is_right (core_of p) (roots_of f g)) objects ≡ true →
    length path.fields ≤ MAX_PATH_FIELDS → last_of path.fields ≡ Some x → is_lasting_root path.root ≡ true →
    is_cell (core_of p) (roots_of f g) (start_path (base_path path)) x ≡ true →
    IsRunOf (core_of p)
    (file_named (core_of p) f g (path_text (core_of p) path) (map (start_text (core_of p)) objects) a b) m1 m2 objects
    (cell_at path x)
written-named p m1 m2 f g path x objects a b is_f is_g entry_f entry_g class right limit last lasts cell =
    let core : Core = core_of p in
    let few_f : length f.parameters < 2 ^ 64 = entry-few p f (in_at core.methods m1.0 f is_f) entry_f in
    let few_g : length g.parameters < 2 ^ 64 = entry-few p g (in_at core.methods m2.0 g is_g) entry_g in
    record {
      entry = f;
      partner = g;
      is_entry = entry-found p m1 f is_f entry_f;
      is_partner = ap (λ (c : ClassId). entry_named core (name_at (class_names core) c.0) (entry_text g)) class
          ∙ entry-found p m2 g is_g entry_g;
      are_objects = all-named core f g objects (objects-found p f g few_f few_g objects right);
      is_path = ap named_path (cell-found p f g few_f few_g path x limit last lasts cell);
    }
