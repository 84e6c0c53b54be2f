use Rattle.std.proofs.Common.{◌++◌, take, ap, ◌∙◌}
use Rattle.core_lowering_drafts.specs.Drafts.{has, Exit}
use Rattle.core_lowering_rules.specs.Context.{Code, ends_of, within}
use Rattle.core_lowering_context.specs.Drafts.{code_of}
use Rattle.core_lowering_parts.proofs.rounds.end_round.Goals as goal

pub returns-clause-code : goal.returns-clause-code
returns-clause-code c =
    let at = c.args.at in
    let old = code_of c.args.draft.now in
    let n = c.args.exits.continue_to.0 in
    c.in_ok-put_within.ensures
    ∙ ap (λ (x : Code). x ++ within n c.in_ok-body.body) c.in_ok-body.ensures.kept
    ∙ ap (λ (x : Code). take at old ++ within n x) c.in_ok-body.ensures.taken

pub returns-clause-has_break : goal.returns-clause-has_break
returns-clause-has_break c =
    let exit = c.args.exits.break_to.0 in
    c.has-has_break.ensures
    ∙ c.ends.ensures (Exit exit)
    ∙ ap (λ (x : Code). has (ends_of x) (Exit exit)) c.in_ok-body.ensures.taken
