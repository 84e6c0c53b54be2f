use Rattle.std.proofs.Common.{◌≡◌, ◌++◌, ◌∷◌, [], Some, sym, ap, ◌∙◌, rules}
use Rattle.std.proofs.lemmas.Result.{on_ok_weaker}
use Rattle.core_lowering_drafts.specs.Drafts.{Leave}
use Rattle.core_lowering_rules.specs.Statements.{set}
use Rattle.core_lowering_context.specs.Drafts.{code_of}
use Rattle.core_lowering_context.specs.Exits.{sent_seen, sent_pair}
use Rattle.core_lowering_parts.specs.StatementParts.{sent_by}
use Rattle.core_lowering_context.proofs.Pieces.{two_pieces}
use Rattle.core_lowering_parts.proofs.returns.lower_sent.Goals as goal

pub returns : goal.returns
returns c =
    let context = c.args.context.now in
    let old = code_of c.args.draft.now in
    let sent = c.in-Some.sent in
    let is : sent_seen c.args.sent ≡ Some (sent_pair sent) = search rules in
    on_ok_weaker c.leave.result
    (λ made. two_pieces old (code_of c.set.new.draft) (code_of c.leave.new.self) (set context sent.variable)
    (Leave sent.exit.0 ∷ []) c.in_ok-set.ensures made
    ∙ ap (λ o. old ++ sent_by context o) (sym is))
    c.leave.ensures
