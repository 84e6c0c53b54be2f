use Rattle.std.proofs.lemmas.Result.{err_from_is_err_and}
use Rattle.transfer_ties.specs.Names.{set_in}
use Rattle.transfer_ties.specs.Partners.{accesses_in, summary_in, value_in}
use Rattle.transfer_ties.proofs.Given.{not_given}
use Rattle.transfer_ties.proofs.Records.{no_accesses, no_value, no_wobbly, summary_given}
use Rattle.transfer_ties.proofs.renumbering.summary.Goals as goal

pub returns-in_err-result : goal.returns-in_err-result
returns-in_err-result c =
    let ties = c.args.ties.now in
    let s = c.args.summary.now in
    let p = err_from_is_err_and c.from_residual.result c.from_residual.ensures.1 in
    rw (p.1, p.2)
    (not_given (value_in ties s.result) (summary_in ties s) c.in_err-result.field-0.0 (no_value ties s)
    c.in_err-result.ensures)

pub returns-in_err-wobbly : goal.returns-in_err-wobbly
returns-in_err-wobbly c =
    let ties = c.args.ties.now in
    let s = c.args.summary.now in
    let p = err_from_is_err_and c.from_residual-in_err-wobbly.result c.from_residual-in_err-wobbly.ensures.1 in
    rw (p.1, p.2)
    (not_given (set_in ties s.wobbly) (summary_in ties s) c.in_err-wobbly.field-0.0 (no_wobbly ties s)
    c.in_err-wobbly.ensures)

pub returns-in_err-accesses : goal.returns-in_err-accesses
returns-in_err-accesses c =
    let ties = c.args.ties.now in
    let s = c.args.summary.now in
    let p = err_from_is_err_and c.from_residual-in_err-accesses.result c.from_residual-in_err-accesses.ensures.1 in
    rw (p.1, p.2)
    (not_given (accesses_in ties s.accesses) (summary_in ties s) c.in_err-accesses.field-0.0 (no_accesses ties s)
    c.in_err-accesses.ensures)

pub returns : goal.returns
returns c =
    summary_given c.args.ties.now c.args.summary.now c.in_ok-accesses.accesses c.in_ok-wobbly.wobbly
    c.in_ok-result.result c.in_ok-accesses.ensures c.in_ok-wobbly.ensures c.in_ok-result.ensures
