use Rattle.std.proofs.Common.{ℕ, List, map, ap, ◌∙◌}
use Rattle.racer_base.specs.declared.ids.Place.{Place}
use Rattle.core_code.specs.declared.parts.ClassCore.{ClassCore}
use Rattle.core_code.specs.declared.parts.FieldCore.{FieldCore}
use Rattle.core_code.specs.Core.{Core, Method}
use Rattle.core_lowering_rules.proofs.ZippedLists.{same_5}
use Rattle.core_lowering_rules.specs.Programs.{class_core, field_cores}
use Rattle.core_lowering.proofs.programs.parts.Goals as goal

abbrev core_with : List (List ℕ) → List Place → List ClassCore → List FieldCore → List Method → Core
core_with files skipped classes fields methods =
    record { files = files; skipped = skipped; classes = classes; fields = fields; methods = methods }

pub returns : goal.returns
returns c =
    same_5 core_with c.in_ok-file_names.ensures c.in_ok-skipped_of.ensures
    (c.in_ok-classes.ensures ∙ ap (map class_core) c.classes.ensures)
    (c.in_ok-fields.ensures ∙ ap (field_cores c.args.declared.containers) c.fields.ensures) c.in_ok-methods.ensures
