use Rattle.access_paths.specs.declared.path.Path.{Path}
use Rattle.transfer_ties.specs.Partners.{path_in}
use Rattle.transfer_ties.proofs.Given.{stays_all, stays_next}
use Rattle.transfer_ties.proofs.staying.paths_stay.Goals as goal

pub loop-path-preserved : goal.loop-path-preserved
loop-path-preserved c =
    let path : Path = c.path-item.result in
    stays_next (path_in c.args.ties.now) c.args.paths.now c.loop-path.path-index path c.loop-path-test.true
    c.path-item.is (c.path_stays.ensures c.if-not-path_stays.false) c.loop-path.invariant

pub returns : goal.returns
returns c = λ _.
    stays_all (path_in c.args.ties.now) c.args.paths.now c.loop-path.path-index c.loop-path-test.false
    c.loop-path.invariant
