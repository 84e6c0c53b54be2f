use Rattle.std.proofs.Common.{ap, ◌∙◌}
use Rattle.core_code.specs.Program.{core}
use Rattle.access_domain.specs.Outcomes.{summary_in}
use Rattle.access_domain.specs.Summaries.{known_of}
use Rattle.access_domain.proofs.MethodOutcomes.{known-outcome}
use Rattle.race_report_parts.proofs.FoundSummaries.{held-found}
use Rattle.race_report_parts.proofs.methods.summary_of.Goals as goal

pub returns : goal.returns
returns c =
    let program = core c.args.program.now in
    c.summary_at.ensures
    ∙ ap summary_in (known-outcome program c.args.outcomes.now.items (record { 0 = c.args.number }) c.requires)
    ∙ held-found (known_of program (record { 0 = c.args.number }))
