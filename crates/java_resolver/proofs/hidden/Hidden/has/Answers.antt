use Rattle.std.proofs.Common.{is_some, ap, ◌∙◌}
use Rattle.java_resolver.specs.Hidden.{is_hidden}
use Rattle.java_resolver.proofs.HiddenNames.{hidden_found}
use Rattle.java_resolver.proofs.hidden.Hidden.has.Goals as goal

pub returns : goal.returns
returns c =
    c.is_some.ensures ∙ ap is_some c.number_at.ensures
    ∙ hidden_found c.self.inside.numbers c.self.inside.list.items c.args.name.now c.self.invariant
    ∙ ap (λ names. is_hidden names c.args.name.now) c.self.view_is
