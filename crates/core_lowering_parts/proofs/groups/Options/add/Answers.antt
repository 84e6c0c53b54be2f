use Rattle.std.proofs.Common.{◌∷◌, [], ◌++◌, List, None, sym, ap, ◌∙◌}
use Rattle.core_lowering_drafts.specs.Drafts.{Normal}
use Rattle.core_lowering_rules.specs.Context.{Code}
use Rattle.core_lowering_rules.specs.Scopes.{after_all}
use Rattle.core_lowering_rules.specs.Statements.{entered}
use Rattle.core_lowering_parts.specs.StatementParts.{fallen, left_options}
use Rattle.core_lowering_parts.proofs.OptionsMade.{goes-on, ends-here}
use Rattle.core_lowering_parts.proofs.groups.Options.add.Goals as goal

pub returns-then-has_normal : goal.returns-then-has_normal
returns-then-has_normal c context labels ss gs is =
    let done = c.args.self.now.done.items in
    goes-on context labels ss gs c.args.group is done c.args.self.now.falling.items
    (sym (c.ends.ensures Normal) ∙ sym c.has_normal.ensures ∙ c.if-has_normal.true)
    ∙ ap (λ (xs : List Code). done ++ left_options (after_all context ss) (fallen None xs) gs)
    (sym c.in_ok-push.ensures.items)

pub returns : goal.returns
returns c context labels ss gs is =
    let done = c.args.self.now.done.items in
    let falling = c.args.self.now.falling.items in
    let group = c.args.group in
    let inside = after_all context ss in
    ends-here context labels ss gs group is done falling
    (sym (c.ends.ensures Normal) ∙ sym c.has_normal.ensures ∙ c.if-has_normal.false)
    ∙ ap (λ (xs : List Code). xs ++ left_options inside None gs)
    (sym (c.in_ok-push-2.ensures.items
    ∙ ap (λ (x : Code). done ++ x ∷ [])
    (c.in_ok-option_of.ensures
    ∙ ap (λ v. entered (fallen None v.items) ++ group) c.replace-falling.ensures.value)))
    ∙ ap (λ (xs : List Code). c.push-2.new.self.items ++ left_options inside (fallen None xs) gs)
    (sym (ap (λ v. v.items) c.replace-falling.ensures.after ∙ c.new.ensures.items))
