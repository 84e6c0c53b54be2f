use Rattle.std.proofs.lemmas.Result.{err_from_is_err_and}
use Rattle.access_paths.specs.declared.path.Path.{Path}
use Rattle.transfer_ties.specs.Names.{set_of}
use Rattle.transfer_ties.specs.Partners.{path_in}
use Rattle.transfer_ties.proofs.Given.{not_given}
use Rattle.transfer_ties.proofs.Sets.{no_set, set_all, set_next}
use Rattle.transfer_ties.proofs.renumbering.set_of.Goals as goal

pub loop-one-preserved : goal.loop-one-preserved
loop-one-preserved c =
    let one : Path = c.one-item.result in
    set_next c.args.ties.now c.args.paths.now c.loop-one.one-index one c.in_ok-path.field-0 c.loop-one.made
    c.put.new.paths c.loop-one-test.true c.one-item.is c.in_ok-path.ensures c.loop-one.invariant c.in_ok-put.ensures

pub returns-in_err-path : goal.returns-in_err-path
returns-in_err-path c =
    let ties = c.args.ties.now in
    let one : Path = c.one-item.result in
    let p = err_from_is_err_and c.from_residual.result c.from_residual.ensures.1 in
    rw (p.1, p.2)
    (not_given (path_in ties one) (set_of ties c.args.paths.now) c.in_err-path.field-0.0
    (no_set ties c.args.paths.now c.loop-one.one-index one c.loop-one-test.true c.one-item.is)
    c.in_err-path.ensures)

pub returns : goal.returns
returns c =
    set_all c.args.ties.now c.args.paths.now c.loop-one.one-index c.loop-one.made c.loop-one-test.false
    c.loop-one.invariant
