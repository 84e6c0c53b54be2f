use Rattle.std.proofs.Common.{◌++◌, ℕ, List, ap, codes}
use Rattle.std.specs.List.{flat_map}
use Rattle.core_code.specs.Program.{core}
use Rattle.core_semantics.specs.declared.object.StartPath.{StartPath}
use Rattle.core_ways.specs.Marks.{leg_of}
use Rattle.race_report_parts.specs.Marks.{leg_text}
use Rattle.race_report_parts.specs.Report.{line, object_line}
use Rattle.race_report_parts.proofs.PutChains.{three, same_piece}
use Rattle.race_report_parts.proofs.RunLines.{behind_nothing}
use Rattle.race_report_parts.proofs.mark_lines.push_witness.Goals as goal

pub returns : goal.returns
returns c =
    let witness = c.args.witness.now in
    let objects : List StartPath → List ℕ = λ all. flat_map (object_line (core c.args.program.now)) all in
    let first = codes " first " ++ leg_text (leg_of witness.first) in
    let second = codes " second " ++ leg_text (leg_of witness.second) in
    same_piece (three (same_piece c.push_objects.ensures (ap objects c.as_slice.ensures)) c.push_leg_line.ensures
    c.push_leg_line-2.ensures) (behind_nothing (objects witness.objects) (line first) (line second))
