use Rattle.std.proofs.Common.{sym, ap}
use Rattle.core_code.specs.Program.{core}
use Rattle.race_report_parts.proofs.PutChains.{four, five, same_piece}
use Rattle.racer_run_history.specs.History as wanted
use Rattle.racer_run_history.proofs.push_event.Goals as goal

pub returns-in-Take : goal.returns-in-Take
returns-in-Take c =
    let program = core c.args.program.now in
    same_piece (four c.push_text.ensures c.push_number.ensures c.push_named.ensures c.push_end.ensures) (ap
    (wanted.event_line program) (sym c.in-Take.is))

pub returns-in-Park : goal.returns-in-Park
returns-in-Park c =
    let program = core c.args.program.now in
    let start = c.push_text-in-Park in
    let number = c.push_number-in-Park in
    let first = c.push_named-in-Park in
    let second = c.push_named-in-Park-2 in
    let end = c.push_end-in-Park in
    same_piece (five start.ensures number.ensures first.ensures second.ensures end.ensures) (ap (wanted.event_line
    program) (sym c.in-Park.is))
