use Rattle.std.proofs.Common.{◌≡◌, ℕ, List, String, IfSome, map, string_bytes, sym, subst}
use Rattle.std.specs.Global.{Global}
use Rattle.core_code.specs.Core.{Method, method_of}
use Rattle.core_code.specs.Program.{core}
use Rattle.race_report_parts.specs.Told.{found_of, wobbly_texts}
use Rattle.race_report_parts.specs.Json.{found_values}
use Rattle.race_report_parts.specs.Pieces.{summary_object}
use Rattle.race_report_parts.proofs.JsonItems.{one_item, summary_item}
use Rattle.race_report_parts.proofs.json.push_summary_item.Goals as goal

pub returns-in-Ok : goal.returns-in-Ok
returns-in-Ok c =
    let program = core c.args.program.now in
    let one : ℕ × Method = (c.args.number, method_of c.args.method.now) in
    let found = found_of program (record { 0 = c.args.number }) in
    let texts : List (String Global) = c.as_slice-wobbly.result.now in
    let are : IfSome found (λ f. map string_bytes texts ≡ wobbly_texts program f) =
    subst (λ (ts : List (String Global)). IfSome found (λ f. map string_bytes ts ≡ wobbly_texts program f))
    (sym c.as_slice-wobbly.ensures.value) c.in-Ok.ensures in
    one_item (found_values program one found) (summary_object program one c.args.summary.now.accesses (map string_bytes
    texts) c.args.summary.now.result) c.args.later c.args.text.now c.push_comma.new.text c.push_found.new.text
    (summary_item program one found c.args.summary.now (map string_bytes texts) c.requires.is are) c.push_comma.ensures
    c.push_found.ensures
