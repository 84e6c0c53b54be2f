use Rattle.std.proofs.Common.{◌++◌, Option, ℕ, ap, ◌∙◌}
use Rattle.std.proofs.lemmas.Result.{on_ok_weaker}
use Rattle.racer_base.specs.declared.ids.VarId.{VarId}
use Rattle.core_lowering_rules.specs.Context.{Context}
use Rattle.core_lowering_rules.specs.Scopes.{after_return}
use Rattle.core_lowering_context.specs.Drafts.{code_of}
use Rattle.core_lowering_context.specs.Exits.{sent_seen}
use Rattle.core_lowering_context.specs.Restored.{sent_to}
use Rattle.core_lowering_parts.specs.StatementParts.{sent_by}
use Rattle.core_lowering_parts.proofs.Inside.{inside-after_return}
use Rattle.core_lowering_parts.proofs.ReturnCode.{sent-alike, sent-there}
use Rattle.core_lowering_parts.proofs.returns.end_return.Goals as goal

pub returns-clause-code : goal.returns-clause-code
returns-clause-code c =
    let a = c.args.context.now in
    let old = code_of c.args.draft.now in
    on_ok_weaker c.lower_sent.result
    (λ made. made
    ∙ ap (λ (x : Context). old ++ sent_by x (sent_seen c.in_ok-sent.sent)) c.in_ok-sent.ensures.context
    ∙ ap (λ (to : Option (ℕ × VarId)). old ++ sent_by (after_return a) to) c.in_ok-sent.ensures.sent
    ∙ ap (λ x. old ++ x)
    (sent-alike (after_return a) a (sent_to a) (inside-after_return a).place ∙ sent-there a))
    c.lower_sent.ensures
