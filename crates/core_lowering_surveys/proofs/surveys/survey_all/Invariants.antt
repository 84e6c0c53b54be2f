use Rattle.std.proofs.Common.{◌≡◌, ◌++◌, [], map, drop}
use Rattle.std.specs.List.{All}
use Rattle.core_lowering_context.specs.Views.{folder_of}
use Rattle.core_lowering_context.specs.Sources.{source_of}
use Rattle.core_lowering_surveys.specs.Surveys.{row_in}
use Rattle.core_lowering_surveys.specs.Reasons.{declared_by, own_reason}
use Rattle.core_lowering_surveys.specs.Surveys.{seen, IsRight}
use Rattle.core_lowering_surveys.proofs.surveys.survey_all.Given as goal

abbrev pub invariant-loop-source : goal.invariant-loop-source
invariant-loop-source l =
    let row = row_in (folder_of l.table l.cells []) in
    let reason = own_reason (declared_by l.table l.cells) in
    record {
      rows : l.rows.items ++ map row (map source_of (drop l.source-index l.sources))
          ≡ map row (map source_of l.sources);
      reasons : l.reasons.items ++ map reason (map source_of (drop l.source-index l.sources))
          ≡ map reason (map source_of l.sources);
      methods : map seen l.methods.items ++ map source_of (drop l.source-index l.sources) ≡ map source_of l.sources;
      extents : All (IsRight l.table l.cells) l.methods.items;
    }
