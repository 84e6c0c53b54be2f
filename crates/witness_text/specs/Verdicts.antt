-- A contract of a public call rests on this: what the replay of a witness file shows. No summary and no way is named
-- here.
use Rattle.std.specs.Prelude.{ℕ, suc, Bool, true, false, ◌&&◌, List, [], ◌∷◌, Option, None, Some, if◌then◌else◌}
use Rattle.racer_base.specs.declared.ids.MethodId.{MethodId}
use Rattle.access_paths.specs.Paths.{same_field}
use Rattle.core_code.specs.Core.{Core}
use Rattle.core_semantics.specs.declared.object.Start.TheVariants.{Only}
use Rattle.core_semantics.specs.Legs.{Leg, Came, Halted, runs}
use Rattle.core_semantics.specs.declared.object.StartPath.{StartPath}
use Rattle.core_semantics.specs.Objects.{same_object}
use Rattle.core_semantics.specs.Runs.{Access, begun, next_touch, races}
use Rattle.core_semantics.specs.State.{State}
use Rattle.witness_text_files.specs.Files.{File}
use Rattle.witness_text_names.specs.declared.cells.Cell.{Cell}
use Rattle.witness_text_names.specs.declared.cells.NamedPath.{NamedPath}
use Rattle.witness_text_names.specs.declared.cells.NamedPath.TheVariants.{Absent, NoCell, Is}
use Rattle.witness_text_names.specs.declared.objects.Named.{Named}
use Rattle.witness_text_names.specs.declared.objects.Named.TheVariants.{All, NoneAt}
use Rattle.witness_text_names.specs.Names.{NumberedMethod, entry_named}
use Rattle.witness_text_names.specs.Objects.{objects_named, path_cell}
use Rattle.witness_text.specs.declared.verdict.Verdict.{Verdict}
use Rattle.witness_text.specs.declared.verdict.Verdict.TheVariants.{NoConflict, NoSuchEntry, NoSuchObject, Races}
use Rattle.witness_text.specs.declared.verdict.Verdict.TheVariants.{NoSuchPath, OtherCell, StopsAt}

-- The verdict of legs that are run in order, the first of which has this number. A leg stops after so many steps where
-- its thread cannot step, is done, is held or has no turn left, and after all of its steps where turns are left over.
abbrev pub legs_verdict : Core → (State → Verdict) → ℕ → List Leg → State → Verdict
legs_verdict core ends i [] s = ends s
legs_verdict core ends i (leg ∷ legs) s =
    elim (runs core leg.thread leg.steps leg.turns s) [
      | Came to left ↦ elim left [
        | [] ↦ legs_verdict core ends (suc i) legs to
        | ◌∷◌ turn turns ↦ StopsAt i leg.steps
      ]
      | Halted halt at steps ↦ StopsAt i steps
    ]

-- whether an access is in this cell
abbrev pub is_access_in : Cell → Option Access → Bool
is_access_in cell None = false
is_access_in cell (Some (o, f, kind)) = same_object cell.object o && same_field cell.field f

-- whether the threads, which race, are at this cell; without one they may be at any
abbrev pub are_at : Option Cell → State → Bool
are_at None s = true
are_at (Some cell) s = is_access_in cell (next_touch s 0)

abbrev pub race_verdict : Option Cell → State → Verdict
race_verdict cell s = if races s then (if are_at cell s then Races else OtherCell) else NoConflict

-- of the run from these objects, whose race is to be in this cell
abbrev pub run_verdict : Core → File → MethodId → MethodId → List StartPath → Option Cell → Verdict
run_verdict core file m1 m2 objects cell =
    legs_verdict core (race_verdict cell) 0 (file.first ∷ file.second ∷ []) (begun core m1 m2 (Only objects))

-- where these are the objects, and the path is this
abbrev pub named_verdict : Core → File → MethodId → MethodId → Named → NamedPath → Verdict
named_verdict core file m1 m2 (NoneAt i) path = NoSuchObject i
named_verdict core file m1 m2 (All objects) NoCell = NoSuchPath
named_verdict core file m1 m2 (All objects) Absent = run_verdict core file m1 m2 objects None
named_verdict core file m1 m2 (All objects) (Is cell) = run_verdict core file m1 m2 objects (Some cell)

abbrev pub entries_verdict : Core → File → Option NumberedMethod → Option NumberedMethod → Verdict
entries_verdict core file (Some a) (Some b) =
    named_verdict core file (record { 0 = a.0 }) (record { 0 = b.0 }) (objects_named core a.1 b.1 file.objects)
    (path_cell core a.1 b.1 file.path)
entries_verdict core file _ _ = NoSuchEntry

abbrev pub verdict : Core → File → Verdict
verdict core file =
    entries_verdict core file (entry_named core file.class file.first_entry)
    (entry_named core file.class file.second_entry)
