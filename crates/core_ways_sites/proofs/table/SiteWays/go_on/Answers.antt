use Rattle.std.proofs.Common.{◌≡◌, Some, ap, refl, ◌∙◌}
use Rattle.std.specs.Option.{option_copied}
use Rattle.core_code.specs.Program.{core}
use Rattle.access_domain.proofs.MethodOutcomes.{known-record}
use Rattle.access_domain.specs.OutcomeRecords.{record_at}
use Rattle.core_ways_sites.proofs.table.SiteWays.go_on.Goals as goal

pub returns-in-Some-reached-clause-leads : goal.returns-in-Some-reached-clause-leads
returns-in-Some-reached-clause-leads c = λ whole leads.
    let program = core c.args.program.now in
    let m = c.args.method in
    let i = c.args.access in
    let at : record_at program m i ≡ Some c.in-Some.record.now =
    known-record program c.args.outcomes.now.items m i (option_copied c.record_of.result) c.requires.outcomes
    c.record_of.ensures ∙ ap option_copied c.in-Some.is in
    c.enter.ensures program m i c.in-Some.record.now whole c.args.program.now.ranks_there at refl
    (c.in-Some-reached.ensures program c.in_ok-find.ensures) leads
