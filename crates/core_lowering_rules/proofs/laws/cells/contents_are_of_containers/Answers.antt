use Rattle.core_lowering_rules.proofs.NamedContents.{content-of-container}
use Rattle.core_lowering_rules.proofs.laws.cells.contents_are_of_containers.Goals as goal

pub returns : goal.returns
returns c containers files units core f field name named lowered there e =
    content-of-container containers files units core f field name named lowered there e
