use Rattle.core_code.specs.Calls.{method_at}
use Rattle.core_code.specs.Core.{method_of}
use Rattle.core_code.specs.Program.{core}
use Rattle.race_report_parts.specs.Places.{owned_record_at}
use Rattle.race_report_parts.specs.Sides.{held_of}
use Rattle.race_report_parts.proofs.SideParts.{side_made, no_method, no_record}
use Rattle.race_report_parts.proofs.sides.side_of.Goals as goal

pub returns : goal.returns
returns c =
    let program = core c.args.program.now in
    side_made program (method_at program c.args.number) (owned_record_at program c.args.number c.args.index)
    (method_of c.in-Some.method.now) (held_of c.in-Some-owned_record_at.held) c.in_ok-places.places.items
    c.in-Some.ensures c.in-Some-owned_record_at.ensures c.in_ok-places.ensures

pub returns-in_default-owned_record_at : goal.returns-in_default-owned_record_at
returns-in_default-owned_record_at c =
    let program = core c.args.program.now in
    no_record program (method_at program c.args.number) (owned_record_at program c.args.number c.args.index)
    (method_of c.in-Some.method.now) c.in-Some.ensures c.in_default-owned_record_at.ensures

pub returns-in_default : goal.returns-in_default
returns-in_default c =
    let program = core c.args.program.now in
    no_method program (method_at program c.args.number) (owned_record_at program c.args.number c.args.index)
    c.in_default.ensures
