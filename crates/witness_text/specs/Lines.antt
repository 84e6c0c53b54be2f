-- A contract of a public call rests on this: the lines that tell a verdict, or why a file is no witness.
use Rattle.std.specs.Prelude.{ℕ, List, ◌++◌, codes}
use Rattle.std.specs.Fmt.{decimal}
use Rattle.race_report_parts.specs.Report.{line}
use Rattle.witness_text_files.specs.declared.fault.Field.{Field}
use Rattle.witness_text_files.specs.declared.fault.Field.TheVariants.{Version, Class, Entries, Path, Objects, Legs}
use Rattle.witness_text.specs.declared.verdict.Verdict.{Verdict}
use Rattle.witness_text.specs.declared.verdict.Verdict.TheVariants.{Races, NoSuchEntry, NoSuchObject, StopsAt}
use Rattle.witness_text.specs.declared.verdict.Verdict.TheVariants.{NoConflict, NoSuchPath, OtherCell}

-- a member of a witness file
abbrev pub field_name : Field → List ℕ
field_name Version = codes "version"
field_name Class = codes "class"
field_name Entries = codes "entries"
field_name Path = codes "path"
field_name Objects = codes "objects"
field_name Legs = codes "legs"

-- no such object I
abbrev pub no_object_text : ℕ → List ℕ
no_object_text index = codes "no such object " ++ decimal index

-- stops at leg L step S
abbrev pub stop_text : ℕ → ℕ → List ℕ
stop_text leg step = codes "stops at leg " ++ decimal leg ++ codes " step " ++ decimal step

abbrev pub verdict_text : Verdict → List ℕ
verdict_text Races = codes "races"
verdict_text NoSuchEntry = codes "no such entry"
verdict_text (NoSuchObject index) = no_object_text index
verdict_text NoSuchPath = codes "no such path"
verdict_text (StopsAt leg step) = stop_text leg step
verdict_text NoConflict = codes "no conflict"
verdict_text OtherCell = codes "other cell"

abbrev pub verdict_line : Verdict → List ℕ
verdict_line v = line (verdict_text v)
