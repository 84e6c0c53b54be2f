use Rattle.std.proofs.Common.{ℕ, List, ap}
use Rattle.std.specs.List.{flat_map}
use Rattle.racer_base.specs.declared.ids.MethodId.{MethodId}
use Rattle.core_code.specs.Program.{core}
use Rattle.access_domain.specs.declared.access.Access.{Access}
use Rattle.race_report_parts.specs.Report.{access_line}
use Rattle.race_report_parts.proofs.PutChains.{four, same_piece}
use Rattle.race_report_parts.proofs.summary_lines.push_found.Goals as goal

pub returns : goal.returns
returns c =
    let program = core c.args.program.now in
    let number : MethodId = record { 0 = c.args.number } in
    let records : List Access → List ℕ = λ all. flat_map (access_line program number) all in
    four c.push_summary_head.ensures (same_piece c.push_accesses.ensures (ap records c.as_slice.ensures))
    c.push_wobbly.ensures c.push_result.ensures
