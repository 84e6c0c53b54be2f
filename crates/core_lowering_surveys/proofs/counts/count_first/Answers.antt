use Rattle.std.proofs.Common.{◌+◌, slice_index_or, sym, ap, ◌∙◌}
use Rattle.core_lowering_surveys.specs.Counts.{one_at}
use Rattle.core_lowering_surveys.proofs.Tallies.{counted-at}
use Rattle.racer_base.proofs.Lists.{on_ok}
use Rattle.core_lowering_surveys.proofs.counts.count_first.Goals as goal

pub returns-in-Some : goal.returns-in-Some
returns-in-Some c =
    let old = c.args.counts.now in
    on_ok c.count_one.result _ _
    (λ set n.
    counted-at old c.count_one.new.counts c.in-Some.m (c.requires c.in-Some.m c.in-Some.is) set n
    ∙ ap (λ o. one_at o n + slice_index_or old n 0) (sym c.in-Some.is))
    c.count_one.ensures.counts
