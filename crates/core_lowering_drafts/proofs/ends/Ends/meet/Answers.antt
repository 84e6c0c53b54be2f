use Rattle.core_lowering_drafts.specs.EndSets.{exits_asked}
use Rattle.core_lowering_drafts.proofs.EndSets.{meet-made}
use Rattle.core_lowering_drafts.proofs.ends.Ends.meet.Goals as goal

pub returns : goal.returns
returns c =
    let s = c.args.self.now in
    let a = c.args.asked in
    meet-made s.normal s.returns s.throws a.normal a.returns a.throws s.exits.keys (exits_asked a.exits)
    c.both-normal.result c.both-returns.result c.both-throws.result c.have_common-exits.result c.either.result
    c.either-2.result c.either-3.result c.both-normal.ensures c.both-returns.ensures c.both-throws.ensures
    c.have_common-exits.ensures c.either.ensures c.either-2.ensures c.either-3.ensures
