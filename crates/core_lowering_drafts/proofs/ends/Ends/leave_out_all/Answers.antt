use Rattle.std.proofs.Common.{ap, ◌∙◌, ◌&&◌, not}
use Rattle.core_lowering_drafts.specs.Drafts.{has}
use Rattle.core_lowering_drafts.specs.EndSets.{exits_asked, listed}
use Rattle.core_lowering_drafts.proofs.EndSets.{all-left-out}
use Rattle.core_lowering_drafts.proofs.ends.Ends.leave_out_all.Goals as goal

pub returns : goal.returns
returns c =
    let s = c.args.self.now in
    let a = c.args.asked in
    let z = c.remove_asked.new.exits.keys in
    λ e. ap (λ b. has (listed b c.both-self-2.result c.both-self-3.result z) e) c.both-self.ensures
    ∙ ap (λ b. has (listed (s.normal && not a.normal) b c.both-self-3.result z) e) c.both-self-2.ensures
    ∙ ap (λ b. has (listed (s.normal && not a.normal) (s.returns && not a.returns) b z) e) c.both-self-3.ensures
    ∙ all-left-out s.normal s.returns s.throws a.normal a.returns a.throws s.exits.keys (exits_asked a.exits) z
    c.remove_asked.ensures e
