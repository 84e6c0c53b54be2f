use Rattle.std.proofs.Common.{ap, ◌∙◌}
use Rattle.std.specs.FinSet as set
use Rattle.access_paths.specs.Order.{PathSet}
use Rattle.wobbly_paths.proofs.SetLemmas.{contains-set}
use Rattle.wobbly_paths.proofs.wobbly.Wobbly.has.Goals as goal

pub returns : goal.returns
returns c =
    c.contains.ensures
    ∙ contains-set c.self.inside.paths.keys c.args.path.now
    ∙ ap (λ (paths : PathSet). set.contains paths c.args.path.now) c.self.view_is
