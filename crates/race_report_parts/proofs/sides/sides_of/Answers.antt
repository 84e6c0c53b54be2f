use Rattle.core_code.specs.Program.{core}
use Rattle.race_report_parts.specs.Told.{side_of}
use Rattle.race_report_parts.proofs.SideParts.{both_told, no_first, no_partner}
use Rattle.race_report_parts.proofs.sides.sides_of.Goals as goal

pub returns : goal.returns
returns c =
    let program = core c.args.program.now in
    let warning = c.args.warning in
    both_told c.in_ok-first.field-0 c.in_ok-partner.field-0 c.in-Some.first c.in-Some-2.partner
    (side_of program warning.entry warning.access) (side_of program warning.partner warning.partner_access)
    c.in_ok-first.ensures c.in-Some.is c.in_ok-partner.ensures c.in-Some-2.is

pub returns-in_default-2 : goal.returns-in_default-2
returns-in_default-2 c =
    let program = core c.args.program.now in
    let warning = c.args.warning in
    no_partner c.in_ok-first.field-0 c.in_ok-partner.field-0 c.in-Some.first
    (side_of program warning.entry warning.access) (side_of program warning.partner warning.partner_access)
    c.in_ok-first.ensures c.in-Some.is c.in_ok-partner.ensures c.in_default-2.is

pub returns-in_default : goal.returns-in_default
returns-in_default c =
    let program = core c.args.program.now in
    let warning = c.args.warning in
    no_first c.in_ok-first.field-0 (side_of program warning.entry warning.access)
    (side_of program warning.partner warning.partner_access) c.in_ok-first.ensures c.in_default.is
