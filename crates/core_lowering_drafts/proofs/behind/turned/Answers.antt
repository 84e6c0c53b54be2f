use Rattle.core_lowering_drafts.specs.EndSets.{seen, seen_asked}
use Rattle.core_lowering_drafts.proofs.StandingBranches.{turned-made}
use Rattle.core_lowering_drafts.proofs.behind.turned.Goals as goal

pub returns : goal.returns
returns c =
    turned-made c.args.exit.0 (seen c.args.body.now) (seen_asked c.args.asked) (seen c.in_ok-ends.ends)
    (seen c.leave_out_all.new.self) c.in_ok-ends.ensures c.leave_out_all.ensures
