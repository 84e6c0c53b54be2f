use Rattle.std.proofs.Common.{ap, ◌∙◌}
use Rattle.core_lowering_drafts.specs.Drafts.{has}
use Rattle.core_lowering_drafts.specs.EndSets.{exits_asked, listed}
use Rattle.core_lowering_drafts.proofs.EndSets.{thrown-put}
use Rattle.core_lowering_drafts.proofs.ends.Ends.add_thrown.Goals as goal

pub returns : goal.returns
returns c =
    let s = c.args.self.now in
    let a = c.args.asked in
    λ e. ap (λ b. has (listed s.normal s.returns b s.exits.keys) e) c.either-self.ensures
    ∙ thrown-put s.normal s.returns s.throws a.normal a.returns a.throws s.exits.keys (exits_asked a.exits) e
