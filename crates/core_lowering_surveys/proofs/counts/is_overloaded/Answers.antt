use Rattle.std.proofs.Common.{sym, ◌∙◌}
use Rattle.java_resolver.specs.Table.{methods}
use Rattle.core_lowering_surveys.proofs.SameCounts.{none-overloaded, overload-counted}
use Rattle.core_lowering_surveys.proofs.counts.is_overloaded.Goals as goal

pub returns-in-Some : goal.returns-in-Some
returns-in-Some c =
    overload-counted (methods c.args.table.now) c.args.info.now c.in-Some.first
    (sym c.in_ok-first.ensures ∙ c.in-Some.is)
    c.count_at.result (c.count_at.ensures ∙ c.requires c.in-Some.first.0)

pub returns-in-None : goal.returns-in-None
returns-in-None c =
    none-overloaded (methods c.args.table.now) c.args.info.now (sym c.in_ok-first.ensures ∙ c.in-None.is)
