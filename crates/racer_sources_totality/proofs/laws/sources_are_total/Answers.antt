use Rattle.racer_sources_totality.proofs.TotalSources.{sources, only-source}
use Rattle.racer_sources_totality.proofs.laws.sources_are_total.Goals as goal

pub returns-clause-total : goal.returns-clause-total
returns-clause-total c =
    sources c.units_are_total.ensures c.tokens_are_few.ensures c.tables_are_total.ensures c.lowering_is_total.ensures

pub returns-clause-only : goal.returns-clause-only
returns-clause-only c =
    only-source
    (sources c.units_are_total.ensures c.tokens_are_few.ensures c.tables_are_total.ensures c.lowering_is_total.ensures)
    c.one_source.ensures
