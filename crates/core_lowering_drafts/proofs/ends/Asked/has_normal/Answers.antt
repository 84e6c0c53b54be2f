use Rattle.std.proofs.Common.{sym}
use Rattle.core_lowering_drafts.specs.Drafts.{Normal}
use Rattle.core_lowering_drafts.specs.EndSets.{exits_asked}
use Rattle.core_lowering_drafts.proofs.EndSets.{has-listed}
use Rattle.core_lowering_drafts.proofs.ends.Asked.has_normal.Goals as goal

pub returns : goal.returns
returns c =
    let s = c.args.self in
    sym (has-listed s.normal s.returns s.throws (exits_asked s.exits) Normal)
