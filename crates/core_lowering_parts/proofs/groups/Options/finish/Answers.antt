use Rattle.std.proofs.Common.{◌∷◌, [], ◌++◌, Option, None, sym, ap, ◌∙◌}
use Rattle.core_lowering_rules.specs.Context.{Code}
use Rattle.core_lowering_parts.specs.StatementParts.{fallen, as_option}
use Rattle.core_lowering_parts.proofs.OptionsMade.{fallen-more}
use Rattle.core_lowering_parts.proofs.groups.Options.finish.Goals as goal

pub returns : goal.returns
returns c =
    let done = c.args.self.done.items in
    c.in_ok-push.ensures.items
    ∙ ap (λ (x : Code). done ++ x ∷ []) c.in_ok-option_of.ensures
    ∙ ap (λ (o : Option Code). done ++ as_option o)
    (sym (ap (fallen None) c.in-Some.ensures.items ∙ fallen-more None c.pop.new.self.items c.in-Some.last))
