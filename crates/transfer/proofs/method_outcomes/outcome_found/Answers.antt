use Rattle.std.proofs.Common.{Bool, subst, ap, ◌∙◌}
use Rattle.std.specs.Prelude.{Result}
use Rattle.transfer_steps.specs.declared.found.Stop.{Stop}
use Rattle.transfer_steps.specs.Marks.{IsMarked, IsStopped, nothing, summary_held}
use Rattle.transfer_steps.specs.Numbered.{read_found}
use Rattle.transfer.proofs.Wholes.{outcome-whole, outcome-large}
use Rattle.transfer.proofs.method_outcomes.outcome_found.Goals as goal

pub returns-in-Ok : goal.returns-in-Ok
returns-in-Ok c = λ e m.
    let found = read_found c.args.table.now c.args.found in
    outcome-whole e found c.summary_of.result
    (subst (λ (r : Result Bool Stop). IsMarked nothing e found r) c.in-Ok.is m)
    (c.summary_of.ensures.held ∙ ap summary_held c.in_ok-read_found-in-Ok.ensures)
    c.summary_of.ensures.few_records c.summary_of.ensures.few_paths

pub returns-in-Large : goal.returns-in-Large
returns-in-Large c = λ e m.
    outcome-large e
    (subst (λ (stop : Stop). IsStopped nothing e stop) c.in-Large.is
    (subst (λ (r : Result Bool Stop). IsMarked nothing e (read_found c.args.table.now c.args.found) r) c.in-Err.is m))
