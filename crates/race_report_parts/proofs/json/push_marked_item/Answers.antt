use Rattle.std.proofs.Common.{Some}
use Rattle.core_code.specs.Program.{core}
use Rattle.core_ways.specs.Marks.{said_by}
use Rattle.race_report_parts.specs.Sides.{sides_told}
use Rattle.race_report_parts.specs.Json.{marked_values}
use Rattle.race_report_parts.specs.Pieces.{warning_object}
use Rattle.race_report_parts.proofs.JsonItems.{one_item, marked_item}
use Rattle.race_report_parts.proofs.json.push_marked_item.Goals as goal

pub returns : goal.returns
returns c =
    let program = core c.args.program.now in
    let mark = said_by c.args.mark.now in
    let sides = sides_told c.args.sides.now in
    one_item (marked_values program mark (Some sides)) (warning_object program mark sides) c.args.later c.args.text.now
    c.push_comma.new.text c.push_marked.new.text (marked_item program mark sides) c.push_comma.ensures
    c.push_marked.ensures
