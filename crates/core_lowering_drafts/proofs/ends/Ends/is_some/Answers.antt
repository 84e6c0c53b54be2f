use Rattle.std.proofs.Common.{ap, ◌∙◌, ◌||◌, not}
use Rattle.core_lowering_drafts.proofs.EndSets.{some-listed}
use Rattle.core_lowering_drafts.proofs.ends.Ends.is_some.Goals as goal

pub returns : goal.returns
returns c =
    let s = c.args.self.now in
    c.either-3.ensures ∙ ap (λ b. s.normal || b) (c.either-2.ensures ∙ ap (λ b. s.returns || b) (c.either.ensures
    ∙ ap (λ b. s.throws || not b) c.is_empty.ensures)) ∙ some-listed s.normal s.returns s.throws s.exits.keys
