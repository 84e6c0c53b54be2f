use Rattle.std.proofs.Common.{◌≡◌, Option, Some, option_map, sym, ap, ◌∙◌, rules}
use Rattle.access_paths.specs.declared.path.Path.{Path}
use Rattle.access_paths.proofs.Numbers.{number-at}
use Rattle.owner_domain.specs.declared.numbered.NumberedValue.TheVariants as number
use Rattle.owner_domain.specs.declared.value.Value.{Value}
use Rattle.owner_domain.specs.declared.value.Value.TheVariants.{Named}
use Rattle.owner_domain.specs.Numbered.{read_value}
use Rattle.transfer.proofs.reading.result_of.Goals as goal

abbrev named : Path → Option Value
named p = Some (Named p)

pub returns-in_ok-copied-in-Some-Named : goal.returns-in_ok-copied-in-Some-Named
returns-in_ok-copied-in-Some-Named c =
    let table = c.args.table.now in
    let value = c.in-Some-Named in
    let is : c.args.value ≡ Some (number.Named value.number) = search rules in
    ap named
    (c.in_ok-copied-in-Some-Named.ensures
    ∙ sym (number-at table value.number c.path_of.result.now c.path_of.ensures))
    ∙ sym (ap (option_map (read_value table)) is)
