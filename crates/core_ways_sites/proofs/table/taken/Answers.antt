use Rattle.std.proofs.Common.{◌∙◌}
use Rattle.core_ways.proofs.Counted.{is-long, is-taken}
use Rattle.core_ways_sites.proofs.table.taken.Goals as goal

pub returns-then-gone-gt-MAX_WAY_STEPS : goal.returns-then-gone-gt-MAX_WAY_STEPS
returns-then-gone-gt-MAX_WAY_STEPS c = λ whole is.
    is-long whole c.args.gone.count is.counted c.in_default.is c.if-gone-gt-MAX_WAY_STEPS.true

pub returns : goal.returns
returns c = λ whole is.
    is-taken whole c.args.gone.count c.from.result is.counted c.in_default.is c.if-gone-gt-MAX_WAY_STEPS.false
    (c.from.ensures
    ∙ is.turned (record { read = c.in_default.is; short = c.if-gone-gt-MAX_WAY_STEPS.false }))
