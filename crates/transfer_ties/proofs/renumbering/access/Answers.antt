use Rattle.std.proofs.Common.{ap}
use Rattle.std.specs.Prelude.{option_map}
use Rattle.std.proofs.lemmas.Result.{err_from_is_err_and}
use Rattle.access_domain.specs.declared.access.Access.{Access}
use Rattle.access_paths.specs.declared.path.Path.{Path}
use Rattle.transfer_ties.specs.Partners.{access_in, path_in}
use Rattle.transfer_ties.proofs.Given.{not_given}
use Rattle.transfer_ties.proofs.renumbering.access.Goals as goal

abbrev with_path : Access → Path → Access
with_path a path = record a { path = path }

pub returns-in_err-path : goal.returns-in_err-path
returns-in_err-path c =
    let ties = c.args.ties.now in
    let a = c.args.access.now in
    let p = err_from_is_err_and c.from_residual.result c.from_residual.ensures.1 in
    rw (p.1, p.2)
    (not_given (path_in ties a.path) (access_in ties a) c.in_err-path.field-0.0
    (λ none. ap (option_map (with_path a)) none) c.in_err-path.ensures)

pub returns : goal.returns
returns c = ap (option_map (with_path c.args.access.now)) c.in_ok-path.ensures
