use Rattle.std.proofs.Common.{◌++◌, List, ap, codes}
use Rattle.racer_base.specs.declared.ids.Place.{Place}
use Rattle.core_code.specs.Program.{core}
use Rattle.race_report_parts.specs.Pieces.{places_strings}
use Rattle.race_report_parts.proofs.PutChains.{four, same_piece}
use Rattle.race_report_parts.proofs.json.push_first.Goals as goal

pub returns : goal.returns
returns c =
    let program = core c.args.program.now in
    let name = codes ",\"profile\":5,\"skipped\":" in
    four c.push_counts.ensures c.push_text.ensures c.push_not_analysed.ensures (same_piece c.push_place_strings.ensures
    (ap (λ (all : List Place). name ++ places_strings program all) c.skipped.ensures))
