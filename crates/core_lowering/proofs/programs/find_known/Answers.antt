use Rattle.std.proofs.Common.{◌≡◌, List, [], map, ap, sym, ◌∙◌}
use Rattle.java_resolver.specs.Table.{classes, fields, methods}
use Rattle.core_lowering_rules.specs.Methods.{Source as SeenSource}
use Rattle.core_lowering_rules.specs.Programs.{sources_of}
use Rattle.core_lowering_context.specs.declared.sources.Source.{Source}
use Rattle.core_lowering_context.specs.Sources.{source_of}
use Rattle.core_lowering_context.specs.Views.{folder_of}
use Rattle.core_lowering_surveys.specs.Surveys.{row_in}
use Rattle.core_lowering.specs.Parts.{parts_of, with_infos}
use Rattle.core_lowering_surveys.specs.Reasons.{declared_by, own_reason}
use Rattle.core_lowering_surveys.specs.Surveys.{seen}
use Rattle.core_lowering.proofs.SamePrograms.{rows-made}
use Rattle.core_lowering.proofs.SameSources.{sources-made}
use Rattle.core_lowering.proofs.programs.find_known.Goals as goal

pub returns-clause-known : goal.returns-clause-known
returns-clause-known c =
    let units = c.args.units.now in
    let declared = c.args.declared in
    let all : List Source = c.in_ok-sources.sources.items in
    let same : map seen c.in_ok-surveys.surveys.methods.items ≡ map source_of all =
    c.in_ok-surveys.ensures.methods
    ∙ ap (λ (ss : List Source). map source_of ss) c.as_slice.ensures.value in
    record {
      classes = c.requires.classes;
      fields = c.requires.fields;
      cells_are = c.requires.cells;
      methods = c.requires.methods;
      sources =
          same ∙ c.in_ok-sources.ensures
          ∙ ap (with_infos (parts_of units)) (c.methods.ensures ∙ c.requires.methods)
          ∙ sources-made units;
      extents = c.in_ok-surveys.ensures.extents;
      reasons =
          c.in_ok-surveys.ensures.reasons
          ∙ ap (λ (ss : List SeenSource). map (own_reason (declared_by declared.table.now declared.cells.now)) ss)
          (sym c.in_ok-surveys.ensures.methods);
    }

pub returns-clause-rows : goal.returns-clause-rows
returns-clause-rows c =
    let units = c.args.units.now in
    let declared = c.args.declared in
    let table = declared.table.now in
    let all : List Source = c.in_ok-sources.sources.items in
    let same : map source_of all ≡ sources_of units =
    c.in_ok-sources.ensures ∙ ap (with_infos (parts_of units)) (c.methods.ensures ∙ c.requires.methods)
    ∙ sources-made units in
    c.in_ok-surveys.ensures.rows
    ∙ ap (λ (ss : List Source). map (row_in (folder_of table declared.cells.now [])) (map source_of ss))
    c.as_slice.ensures.value
    ∙ rows-made declared.containers units (classes table) (fields table) declared.cells.now (methods table)
    (map source_of all) c.requires.classes c.requires.fields c.requires.cells c.requires.methods same
