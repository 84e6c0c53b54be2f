use Rattle.std.proofs.Common.{Some}
use Rattle.core_code.specs.Core.{method_of}
use Rattle.core_code.specs.Program.{core}
use Rattle.race_report_parts.specs.Json.{reason_values}
use Rattle.race_report_parts.specs.Pieces.{reason_object}
use Rattle.race_report_parts.proofs.JsonItems.{one_item, reason_item}
use Rattle.race_report_parts.proofs.json.push_reason_item.Goals as goal

pub returns : goal.returns
returns c =
    let program = core c.args.program.now in
    let method = method_of c.args.method.now in
    one_item (reason_values program method (Some c.args.reason.now)) (reason_object program method c.args.reason.now)
    c.args.later c.args.text.now c.push_comma.new.text c.push_reason.new.text (reason_item program method
    c.args.reason.now) c.push_comma.ensures c.push_reason.ensures
