use Rattle.std.proofs.Common.{ap, ◌∙◌}
use Rattle.core_code.specs.Program.{core}
use Rattle.access_domain.proofs.MethodOutcomes.{known-outcome}
use Rattle.race_report_parts.specs.Told.{reason_from}
use Rattle.race_report_parts.proofs.methods.reason_of.Goals as goal

pub returns : goal.returns
returns c =
    c.reason_from.ensures
    ∙ ap (reason_from c.args.method.now.status) (c.outcome_at.ensures
    ∙ known-outcome (core c.args.program.now) c.args.outcomes.now.items (record { 0 = c.args.number }) c.requires)
