use Rattle.core_lowering_drafts.specs.EndSets.{seen, seen_asked}
use Rattle.core_lowering_drafts.proofs.StandingBranches.{kept-made}
use Rattle.core_lowering_drafts.proofs.behind.kept.Goals as goal

pub returns : goal.returns
returns c =
    kept-made c.args.exit.0 (seen c.args.body.now) (seen_asked c.args.asked) (seen c.in_ok-ends.ends)
    (seen c.in_ok-others.others) (seen_asked c.asked.result) (seen c.leave_out_all.new.self) c.in_ok-ends.ensures
    c.in_ok-others.ensures c.asked.ensures c.leave_out_all.ensures
