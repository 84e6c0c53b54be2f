use Rattle.std.proofs.Common.{◌≡◌, ◌++◌, map, drop}
use Rattle.racer_base.specs.declared.ids.FieldId.{FieldId}
use Rattle.access_paths.specs.Order.{path_key}
use Rattle.race_pairs.proofs.partners.path_key.Given as goal

abbrev pub invariant-loop-field : goal.invariant-loop-field
invariant-loop-field l = l.key.items ++ map (λ (f : FieldId). f.0) (drop l.field-index l.field-items) ≡ path_key l.path
