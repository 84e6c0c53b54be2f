use Rattle.std.proofs.Common.{sym}
use Rattle.core_lowering_drafts.specs.Drafts.{Normal}
use Rattle.core_lowering_drafts.specs.EndSets.{seen}
use Rattle.core_lowering_drafts.proofs.EndSets.{has-listed}
use Rattle.core_lowering_drafts.proofs.Falling.{gone-on}
use Rattle.core_lowering_drafts.proofs.ends.Ends.go_on.Goals as goal

pub returns : goal.returns
returns c =
    let f = c.args.group.now in
    let m = c.add.new.self in
    gone-on f.normal m.normal m.returns m.throws m.exits.keys (seen f) (seen c.args.self.now)
    (sym (has-listed f.normal f.returns f.throws f.exits.keys Normal)) c.in_ok-add.ensures
