-- A contract of a public call rests on this: the witness file of a run.
use Rattle.std.specs.Prelude.{ℕ, List, ◌++◌, Some, codes, length, map}
use Rattle.std.specs.Fmt.{decimal}
use Rattle.core_code.specs.Core.{Core, Method}
use Rattle.access_paths.specs.Text.{name_at}
use Rattle.core_semantics.specs.declared.object.StartPath.{StartPath}
use Rattle.core_semantics.specs.Legs.{Leg}
use Rattle.witness_text_files.specs.Files.{File}
use Rattle.race_report_parts.specs.Marks.{start_text}
use Rattle.race_report_parts.specs.Texts.{class_names, path_text}
use Rattle.race_report_parts.specs.Told.{Sides}

-- NAME/PARAMETERS
abbrev pub entry_text : Method → List ℕ
entry_text method = method.name ++ codes "/" ++ decimal (length method.parameters)

-- the file of version 2 of two entries, that of thread 0 first, with the class of the first, the text of a path, these
-- texts of start paths and these legs in running order
abbrev pub file_named : Core → Method → Method → List ℕ → List (List ℕ) → Leg → Leg → File
file_named core f g path objects first second =
    record {
      class = name_at (class_names core) f.class.0;
      first_entry = entry_text f;
      second_entry = entry_text g;
      path = Some path;
      objects = objects;
      first = first;
      second = second;
    }

-- the file of a run that confirms the warning of these two records: the path of the first, its objects and its legs
abbrev pub file_of_run : Core → Sides → List StartPath → Leg → Leg → File
file_of_run core sides objects first second =
    file_named core sides.first.method sides.partner.method (path_text core sides.first.access.path)
    (map (start_text core) objects) first second
