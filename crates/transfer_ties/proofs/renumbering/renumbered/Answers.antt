use Rattle.std.proofs.Common.{ap, ◌∙◌}
use Rattle.std.specs.Prelude.{option_map}
use Rattle.std.proofs.lemmas.Result.{err_from_is_err_and}
use Rattle.access_domain.specs.declared.summary.Outcome.TheVariants as code
use Rattle.transfer_ties.specs.Partners.{renumbered, summary_in}
use Rattle.transfer_ties.proofs.Given.{not_given}
use Rattle.transfer_ties.proofs.renumbering.renumbered.Goals as goal

pub returns-in_err-summary-in-Summary : goal.returns-in_err-summary-in-Summary
returns-in_err-summary-in-Summary c =
    let ties = c.args.ties.now in
    let s = c.in-Summary.found in
    let p = err_from_is_err_and c.from_residual.result c.from_residual.ensures.1 in
    rw (p.1, p.2)
    (not_given (summary_in ties s) (renumbered ties c.args.outcome.now) c.in_err-summary-in-Summary.field-0.0
    (λ none. ap (renumbered ties) c.in-Summary.is ∙ ap (option_map code.Summary) none)
    c.in_err-summary-in-Summary.ensures)
