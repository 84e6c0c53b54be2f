use Rattle.core_lowering_conditions.proofs.UnitNames.{read_units_are_named}
use Rattle.core_lowering_conditions.proofs.laws.read_units_are_named.Goals as goal

pub returns : goal.returns
returns c = read_units_are_named
