use Rattle.std.proofs.Common.{◌≡◌, None, Some, option_map, sym, ap, ◌∙◌}
use Rattle.std.specs.Option.{option_copied}
use Rattle.core_code.specs.Program.{core}
use Rattle.access_domain.specs.declared.access.Access.{Access}
use Rattle.access_domain.proofs.MethodOutcomes.{known-record}
use Rattle.access_domain.specs.OutcomeRecords.{record_at}
use Rattle.race_report_parts.specs.Places.{OwnedRecord}
use Rattle.race_report_parts.proofs.sides.owned_record_at.Goals as goal

pub returns-in-Some : goal.returns-in-Some
returns-in-Some c =
    let program = core c.args.program.now in
    let held : Access → OwnedRecord = λ (a : Access). record { method = c.args.method; access = a } in
    let at : record_at program c.args.method c.args.index ≡ Some c.in-Some.access.now =
    known-record program c.args.outcomes.now.items c.args.method c.args.index (option_copied c.record_of.result)
    c.requires c.record_of.ensures ∙ ap option_copied c.in-Some.is in
    sym (ap (option_map held) at)

pub returns-in-None : goal.returns-in-None
returns-in-None c =
    let program = core c.args.program.now in
    let held : Access → OwnedRecord = λ (a : Access). record { method = c.args.method; access = a } in
    let at : record_at program c.args.method c.args.index ≡ None =
    known-record program c.args.outcomes.now.items c.args.method c.args.index (option_copied c.record_of.result)
    c.requires c.record_of.ensures ∙ ap option_copied c.in-None.is in
    sym (ap (option_map held) at)
