use Rattle.core_lowering_rules.proofs.NoContainers.{same-program, same-lowered}
use Rattle.core_lowering_rules.proofs.laws.cells.no_container_no_change.Goals as goal

pub returns-clause-program : goal.returns-clause-program
returns-clause-program c files units is_recursive h = same-program files units is_recursive h

pub returns-clause-lowered : goal.returns-clause-lowered
returns-clause-lowered c files units core h lowered = same-lowered files units core h lowered
