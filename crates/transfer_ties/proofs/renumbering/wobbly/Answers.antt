use Rattle.std.proofs.Common.{ap, subst, ◌∙◌}
use Rattle.std.specs.Prelude.{Option, List}
use Rattle.std.specs.FinSet as set
use Rattle.access_paths.specs.declared.path.Path.{Path}
use Rattle.access_paths.specs.Order.{PathSet}
use Rattle.transfer_ties.specs.Making.{IsGiven}
use Rattle.transfer_ties.proofs.Sets.{set_in_of}
use Rattle.transfer_ties.proofs.renumbering.wobbly.Goals as goal

abbrev set_from : List Path → PathSet
set_from ps = set.from_list ps

pub returns : goal.returns
returns c =
    subst (λ (o : Option PathSet). IsGiven o c.set_of.result)
    (set_in_of c.args.ties.now c.as_slice.result.now c.args.wobbly.now
    (ap set_from c.as_slice.ensures.value ∙ c.in_ok-paths.ensures.all))
    c.set_of.ensures
