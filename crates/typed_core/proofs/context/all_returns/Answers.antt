use Rattle.std.proofs.Common.{map, ap, ◌∙◌}
use Rattle.typed_core.specs.Contexts.{returns_in}
use Rattle.typed_core.proofs.Walking.{if_ok}
use Rattle.typed_core.proofs.context.all_returns.Goals as goal

pub returns : goal.returns
returns c =
    if_ok c.returns_of.result _ _ (λ made is. is ∙ ap (map returns_in) c.methods.ensures) c.returns_of.ensures
