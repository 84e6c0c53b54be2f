use Rattle.std.proofs.Common.{ap, ◌∙◌}
use Rattle.access_paths.specs.declared.path.Path.{Path}
use Rattle.access_paths.proofs.Numbers.{number-at, number-below}
use Rattle.owner_domain.specs.declared.value.Value.TheVariants.{Named}
use Rattle.transfer.proofs.method_outcomes.root_value.Goals as goal

pub returns-clause-value : goal.returns-clause-value
returns-clause-value c =
    ap (λ (p : Path). Named p)
    (number-at c.number_of.new.self c.in_ok-number.number c.alone.result c.in_ok-number.ensures.number ∙
    c.alone.ensures)

pub returns-clause-range : goal.returns-clause-range
returns-clause-range c =
    number-below c.number_of.new.self c.in_ok-number.number c.alone.result c.in_ok-number.ensures.number
