use Rattle.std.proofs.Common.{ap, sym, ◌∙◌}
use Rattle.std.specs.Prelude.{List}
use Rattle.std.specs.FinSet as set
use Rattle.std.specs.List.{list_all}
use Rattle.std.proofs.lemmas.List.{at_drop_all}
use Rattle.std.proofs.lemmas.List.Folds.{list_all_at}
use Rattle.access_paths.specs.declared.path.Path.{Path}
use Rattle.access_paths.specs.Order.{PathSet}
use Rattle.transfer_ties.proofs.Sets.{subset_of}
use Rattle.transfer_ties.proofs.outcomes.are_among.Goals as goal

abbrev set_from : List Path → PathSet
set_from ps = set.from_list ps

pub returns-then-not-has : goal.returns-then-not-has
returns-then-not-has c =
    let items = c.as_slice-path-items.result.now in
    let others = c.args.others.now in
    let path : Path = c.path-item.result in
    sym (list_all_at (set.contains others) items c.loop-path.path-index path c.loop-path-test.true
    (ap (set.contains others) (sym c.path-item.is) ∙ sym c.has.ensures ∙ c.if-not-has.true))
    ∙ subset_of items c.args.some.now others
    (ap set_from c.as_slice-path-items.ensures.value ∙ c.in_ok-paths.ensures.all)

pub returns : goal.returns
returns c =
    let items = c.as_slice-path-items.result.now in
    sym (at_drop_all (list_all (set.contains c.args.others.now)) items c.loop-path.path-index c.loop-path-test.false)
    ∙ c.loop-path.invariant
    ∙ subset_of items c.args.some.now c.args.others.now
    (ap set_from c.as_slice-path-items.ensures.value ∙ c.in_ok-paths.ensures.all)
