use Rattle.std.proofs.Common.{◌++◌, ap}
use Rattle.core_code.specs.Program.{core}
use Rattle.race_report_parts.specs.Texts.{record_text}
use Rattle.race_report_parts.specs.Told.{site_text}
use Rattle.race_report_parts.proofs.PutChains.{three, same_piece}
use Rattle.race_report_parts.proofs.summary_lines.push_access_line.Goals as goal

pub returns : goal.returns
returns c =
    let program = core c.args.program.now in
    let told = record_text program c.args.access.now in
    three c.push_space.ensures (same_piece c.push_access.ensures (ap (λ o. told ++ site_text o) c.place_at.ensures))
    c.push_end.ensures
