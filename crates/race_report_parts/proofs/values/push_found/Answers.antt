use Rattle.std.proofs.Common.{◌++◌, ℕ, List, ap, codes}
use Rattle.core_code.specs.Program.{core}
use Rattle.access_domain.specs.declared.access.Access.{Access}
use Rattle.race_report_parts.specs.Pieces.{records_strings}
use Rattle.race_report_parts.proofs.PutChains.{five, same_piece}
use Rattle.race_report_parts.proofs.values.push_found.Goals as goal

pub returns : goal.returns
returns c =
    let program = core c.args.program.now in
    let records : List Access → List ℕ = λ all.
    codes "{\"accesses\":" ++ records_strings program c.args.number all in
    five (same_piece c.push_access_strings.ensures (ap records c.as_slice.ensures)) c.push_method_string.ensures
    c.push_result_string.ensures c.push_strings.ensures c.push_text.ensures
