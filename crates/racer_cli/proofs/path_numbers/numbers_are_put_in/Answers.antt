use Rattle.std.proofs.Common.{◌≡◌, List, Some, slice_get, sym, subst}
use Rattle.access_paths.specs.declared.path.Path.{Path}
use Rattle.access_paths.proofs.Numbers.{number-below, number-still}
use Rattle.owner_domain.specs.declared.numbered.NumberedValue.{NumberedValue}
use Rattle.owner_domain.specs.Numbered.{AllInRange}
use Rattle.racer_cli.proofs.path_numbers.numbers_are_put_in.Goals as goal

pub substitute-requires : goal.substitute-requires
substitute-requires c =
    let table : List Path = c.number_of.new.self in
    let path : Path = c.alone.result in
    let at : slice_get table c.in_ok-passed.passed ≡ Some path = c.in_ok-passed.ensures.number in
    subst (λ (values : List NumberedValue). AllInRange table values) (sym c.as_slice.ensures)
    (tt, (number-below table c.in_ok-passed.passed path at, tt))

pub substitute_value-requires : goal.substitute_value-requires
substitute_value-requires c =
    let table : List Path = c.number_of.new.self in
    let new : List Path = c.substitute.new.table in
    let path : Path = c.alone.result in
    let n = c.in_ok-passed.passed in
    let at : slice_get table n ≡ Some path = c.in_ok-passed.ensures.number in
    subst (λ (values : List NumberedValue). AllInRange new values) (sym c.as_slice-2.ensures)
    (tt, (number-still table new n c.in_ok-made.ensures.table (number-below table n path at), tt))
