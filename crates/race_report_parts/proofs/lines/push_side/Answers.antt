use Rattle.std.proofs.Common.{List, ap}
use Rattle.std.specs.List.{flat_map}
use Rattle.racer_base.specs.declared.ids.Place.{Place}
use Rattle.core_code.specs.Program.{core}
use Rattle.race_report_parts.specs.Report.{at_line}
use Rattle.race_report_parts.proofs.PutChains.{five, same_piece}
use Rattle.race_report_parts.proofs.lines.push_side.Goals as goal

pub returns : goal.returns
returns c =
    let program = core c.args.program.now in
    five c.push_method.ensures c.push_space.ensures c.push_record.ensures c.push_end.ensures (same_piece
    c.push_places.ensures (ap (λ (all : List Place). flat_map (at_line program) all) c.as_slice.ensures.value))
