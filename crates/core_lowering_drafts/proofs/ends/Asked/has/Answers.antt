use Rattle.std.proofs.Common.{sym, ap, ◌∙◌}
use Rattle.core_lowering_drafts.specs.Drafts.{Exit}
use Rattle.core_lowering_drafts.specs.EndSets.{exits_asked}
use Rattle.core_lowering_drafts.proofs.EndSets.{at, has-listed}
use Rattle.core_lowering_drafts.proofs.ends.Asked.has.Goals as goal

pub returns-in-None : goal.returns-in-None
returns-in-None c =
    let s = c.args.self in
    sym (has-listed s.normal s.returns s.throws (exits_asked s.exits) (Exit c.args.exit.0) ∙ ap (λ o. at
    c.args.exit.0 (exits_asked o)) c.in-None.is)

pub returns-in-Some : goal.returns-in-Some
returns-in-Some c =
    let s = c.args.self in
    c.contains.ensures ∙ sym (has-listed s.normal s.returns s.throws (exits_asked s.exits) (Exit c.args.exit.0)
    ∙ ap (λ o. at c.args.exit.0 (exits_asked o)) c.in-Some.is)
