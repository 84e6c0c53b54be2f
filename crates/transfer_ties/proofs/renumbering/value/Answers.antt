use Rattle.std.proofs.Common.{ap, ◌∙◌}
use Rattle.std.specs.Prelude.{option_map}
use Rattle.std.proofs.lemmas.Result.{err_from_is_err_and}
use Rattle.owner_domain.specs.declared.value.Value.TheVariants.{Named}
use Rattle.transfer_ties.specs.Partners.{path_in, value_in}
use Rattle.transfer_ties.proofs.Given.{not_given}
use Rattle.transfer_ties.proofs.renumbering.value.Goals as goal

pub returns-in_err-path-in-Named : goal.returns-in_err-path-in-Named
returns-in_err-path-in-Named c =
    let ties = c.args.ties.now in
    let path = c.in-Named.named in
    let p = err_from_is_err_and c.from_residual.result c.from_residual.ensures.1 in
    rw (p.1, p.2)
    (not_given (path_in ties path) (value_in ties c.args.value.now) c.in_err-path-in-Named.field-0.0
    (λ none. ap (value_in ties) c.in-Named.is ∙ ap (option_map Named) none) c.in_err-path-in-Named.ensures)
