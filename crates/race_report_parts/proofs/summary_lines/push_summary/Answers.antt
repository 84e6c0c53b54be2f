use Rattle.std.proofs.Common.{◌≡◌, List, String, IfSome, map, string_bytes, sym, subst}
use Rattle.std.specs.Global.{Global}
use Rattle.core_code.specs.Core.{method_of}
use Rattle.core_code.specs.Program.{core}
use Rattle.race_report_parts.specs.Told.{found_of, wobbly_texts}
use Rattle.race_report_parts.proofs.PutChains.{same_piece}
use Rattle.race_report_parts.proofs.SummaryTold.{lines_told}
use Rattle.race_report_parts.proofs.summary_lines.push_summary.Goals as goal

pub returns-in-Ok : goal.returns-in-Ok
returns-in-Ok c =
    let program = core c.args.program.now in
    let found = found_of program (record { 0 = c.args.number }) in
    let texts : List (String Global) = c.as_slice-wobbly.result.now in
    let are : IfSome found (λ f. map string_bytes texts ≡ wobbly_texts program f) =
    subst (λ (ts : List (String Global)). IfSome found (λ f. map string_bytes ts ≡ wobbly_texts program f))
    (sym c.as_slice-wobbly.ensures.value) c.in-Ok.ensures in
    same_piece c.push_found.ensures (lines_told program (c.args.number, method_of c.args.method.now) found
    c.args.summary.now (map string_bytes texts) c.requires.is are)
