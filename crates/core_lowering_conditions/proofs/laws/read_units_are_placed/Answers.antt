use Rattle.core_lowering_conditions.proofs.UnitPlaces.{read_units_are_placed}
use Rattle.core_lowering_conditions.proofs.laws.read_units_are_placed.Goals as goal

pub returns : goal.returns
returns c = read_units_are_placed
