use Rattle.std.proofs.Common.{◌≡◌, ℕ, List, Some, slice_get, sym, ap, ◌∙◌}
use Rattle.access_paths.specs.declared.path.Path.{Path}
use Rattle.access_paths.proofs.Numbers.{number-at, number-below}
use Rattle.owner_domain.specs.declared.value.Value.{Value}
use Rattle.owner_domain.specs.Values.{names_of}
use Rattle.access_domain.specs.Additions.{paths_added}
use Rattle.call_subst.specs.Numbered.{read_set}
use Rattle.call_subst.proofs.NumberedSets.{number-added, wobbly-still}
use Rattle.call_subst.proofs.substitution.add_number.Goals as goal

pub returns-clause-all : goal.returns-clause-all
returns-clause-all c =
    let old : List Path = c.args.table.now in
    let table : List Path = c.number_of.new.self in
    let numbers : List ℕ = c.args.numbers.now.keys in
    let n = c.in_ok-number.number in
    let name : Path = c.in-Named.name in
    let at : slice_get table n ≡ Some name = c.in_ok-number.ensures.number in
    number-added old table c.number_of.ensures.goes_on c.number_of.ensures.each_once numbers c.insert.new.self.keys
    c.requires n (number-below table n name at) c.in-Ok.ensures.keys name (number-at table n name at)
    ∙ ap (λ (v : Value). paths_added (read_set old numbers) (names_of v)) (sym c.in-Named.is ∙ c.in_ok-name.ensures)

pub returns-clause-numbers : goal.returns-clause-numbers
returns-clause-numbers c =
    let table : List Path = c.number_of.new.self in
    let n = c.in_ok-number.number in
    let name : Path = c.in-Named.name in
    wobbly-still c.args.table.now table c.number_of.ensures.goes_on c.number_of.ensures.each_once
    c.args.numbers.now.keys c.insert.new.self.keys c.requires n
    (number-below table n name c.in_ok-number.ensures.number) c.in-Ok.ensures.keys
