use Rattle.core_lowering_rules.proofs.ByField.{fields-by_field}
use Rattle.core_lowering_rules.proofs.laws.programs.fields_by_field.Goals as goal

pub returns : goal.returns
returns c = fields-by_field
