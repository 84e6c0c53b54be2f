use Rattle.std.proofs.Common.{ap, ◌∙◌, ◌||◌}
use Rattle.core_lowering_drafts.specs.Drafts.{has}
use Rattle.core_lowering_drafts.specs.EndSets.{listed}
use Rattle.core_lowering_drafts.proofs.EndSets.{added-told}
use Rattle.core_lowering_drafts.proofs.ends.Ends.add.Goals as goal

pub returns : goal.returns
returns c =
    let s = c.args.self.now in
    let o = c.args.others.now in
    let z = c.add_exits.new.exits.keys in
    λ e. ap (λ b. has (listed b c.either-self-2.result c.either-self-3.result z) e) c.either-self.ensures ∙ ap
    (λ b. has (listed (s.normal || o.normal) b c.either-self-3.result z) e) c.either-self-2.ensures ∙ ap (λ b.
    has (listed (s.normal || o.normal) (s.returns || o.returns) b z) e) c.either-self-3.ensures ∙ added-told
    s.normal s.returns s.throws o.normal o.returns o.throws s.exits.keys o.exits.keys z
    c.in_ok-add_exits.ensures e
