use Rattle.std.proofs.Common.{sym, ap, ◌∙◌}
use Rattle.std.specs.FinSet as set
use Rattle.access_paths.specs.Order.{PathSet}
use Rattle.wobbly_paths.proofs.wobbly.Wobbly.len.Goals as goal

pub returns : goal.returns
returns c =
    c.len.ensures.len
    ∙ sym c.self.invariant.different
    ∙ ap (λ (paths : PathSet). set.len paths) c.self.view_is
