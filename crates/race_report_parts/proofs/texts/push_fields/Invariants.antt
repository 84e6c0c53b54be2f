use Rattle.std.proofs.Common.{drop}
use Rattle.core_code.specs.Program.{core}
use Rattle.access_paths.specs.Text as paths
use Rattle.race_report_parts.specs.Texts as said
use Rattle.race_report_parts.specs.Written.{Lasts, Leaves}
use Rattle.race_report_parts.proofs.texts.push_fields.Given as goal

-- the fields that are left
abbrev pub invariant-loop-field : goal.invariant-loop-field
invariant-loop-field l =
    record {
      lasts : Lasts l.initial.text l.text;
      leaves : Leaves (paths.fields_text (said.field_names (core l.program)) l.fields)
          (paths.fields_text (said.field_names (core l.program)) (drop l.field-index l.fields)) l.initial.text l.text;
    }
