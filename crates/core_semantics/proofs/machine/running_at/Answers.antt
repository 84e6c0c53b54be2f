use Rattle.std.proofs.Common.{List, ◌∷◌, map, reverse, ap, ◌∙◌}
use Rattle.core_code.specs.Core.{method_of}
use Rattle.core_semantics.specs.declared.frame.Frame.{Frame}
use Rattle.core_semantics.specs.Steps.{entered}
use Rattle.core_semantics.specs.View.{frame_of}
use Rattle.core_semantics.proofs.machine.running_at.Goals as goal

pub returns : goal.returns
returns c =
    let first = c.in-Ok-entered.ensures ∙ ap (entered (method_of c.args.method.now)) c.in-Ok.ensures in
    let rest = ap (λ (callers : List Frame). map frame_of (reverse callers)) c.new.ensures.items in
    λ i. first i ∷ rest i
