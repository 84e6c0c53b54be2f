use Rattle.core_lowering_drafts.proofs.EndSets.{left-out}
use Rattle.core_lowering_drafts.proofs.ends.Ends.leave_out.Goals as goal

pub returns : goal.returns
returns c =
    let s = c.args.self.now in
    left-out s.normal s.returns s.throws s.exits.keys c.remove.new.self.keys c.args.exit.0
    c.remove.ensures.updates.0
