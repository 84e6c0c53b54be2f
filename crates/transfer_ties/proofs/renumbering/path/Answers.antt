use Rattle.std.proofs.Common.{sym}
use Rattle.std.proofs.lemmas.Result.{err_from_is_err_and}
use Rattle.transfer_ties.specs.Partners.{fields_in, path_in}
use Rattle.transfer_ties.proofs.Given.{not_given}
use Rattle.transfer_ties.proofs.Records.{no_fields, no_root, path_given}
use Rattle.transfer_ties.proofs.renumbering.path.Goals as goal

pub returns-in_default : goal.returns-in_default
returns-in_default c = no_root c.args.ties.now c.args.path.now (sym c.in_default.ensures)

pub returns-in_err-fields : goal.returns-in_err-fields
returns-in_err-fields c =
    let ties = c.args.ties.now in
    let path = c.args.path.now in
    let p = err_from_is_err_and c.from_residual.result c.from_residual.ensures.1 in
    rw (p.1, p.2)
    (not_given (fields_in ties path.fields) (path_in ties path) c.in_err-fields.field-0.0 (no_fields ties path)
    c.in_err-fields.ensures)

pub returns : goal.returns
returns c =
    path_given c.args.ties.now c.args.path.now c.in-Some.root c.in_ok-fields.fields (sym c.in-Some.ensures)
    c.in_ok-fields.ensures
