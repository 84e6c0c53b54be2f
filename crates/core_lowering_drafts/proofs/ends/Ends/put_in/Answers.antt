use Rattle.core_lowering_drafts.proofs.EndSets.{put-in}
use Rattle.core_lowering_drafts.proofs.ends.Ends.put_in.Goals as goal

pub returns : goal.returns
returns c =
    let s = c.args.self.now in
    put-in s.normal s.returns s.throws s.exits.keys c.insert.new.self.keys c.args.exit.0
    c.in_ok-insert.ensures.updates.0
