use Rattle.access_domain.specs.declared.access.Access.{Access}
use Rattle.transfer_ties.specs.Partners.{access_in}
use Rattle.transfer_ties.proofs.Given.{stays_all, stays_next}
use Rattle.transfer_ties.proofs.Kept.{access_kept}
use Rattle.transfer_ties.proofs.staying.accesses_stay.Goals as goal

pub loop-access-preserved : goal.loop-access-preserved
loop-access-preserved c =
    let access : Access = c.access-item.result in
    stays_next (access_in c.args.ties.now) c.args.accesses.now c.loop-access.access-index access
    c.loop-access-test.true c.access-item.is
    (access_kept c.args.ties.now access (c.path_stays.ensures c.if-not-path_stays.false)) c.loop-access.invariant

pub returns : goal.returns
returns c = λ _.
    stays_all (access_in c.args.ties.now) c.args.accesses.now c.loop-access.access-index c.loop-access-test.false
    c.loop-access.invariant
