use Rattle.std.proofs.Common.{ap, ◌∙◌}
use Rattle.std.specs.Prelude.{option_map}
use Rattle.java_resolver.specs.Firsts.{last_that}
use Rattle.core_lowering_context.specs.Seen.{last_of, is_named, seen}
use Rattle.core_lowering_context.proofs.NamedVariables.{last-seen}
use Rattle.core_lowering_context.proofs.variables.Variables.named.Goals as goal

pub returns : goal.returns
returns c =
    let named = is_named c.args.name.now in
    c.last_seen.ensures ∙ ap last_of (c.self.invariant c.args.name.now)
    ∙ last-seen named c.self.inside.list.items
    ∙ ap (λ all. option_map seen (last_that named all)) c.self.view_is
