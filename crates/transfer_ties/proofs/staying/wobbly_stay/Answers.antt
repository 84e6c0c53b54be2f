use Rattle.std.proofs.Common.{ap, ◌∙◌}
use Rattle.std.specs.Prelude.{List}
use Rattle.std.specs.FinSet as set
use Rattle.access_paths.specs.declared.path.Path.{Path}
use Rattle.access_paths.specs.Order.{PathSet}
use Rattle.transfer_ties.proofs.Sets.{set_stays}
use Rattle.transfer_ties.proofs.staying.wobbly_stay.Goals as goal

abbrev set_from : List Path → PathSet
set_from ps = set.from_list ps

pub returns : goal.returns
returns c = λ stay.
    set_stays c.args.ties.now c.as_slice.result.now c.args.wobbly.now
    (ap set_from c.as_slice.ensures.value ∙ c.in_ok-paths.ensures.all) (c.paths_stay.ensures stay)
