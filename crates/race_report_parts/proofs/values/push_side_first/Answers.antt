use Rattle.std.proofs.Common.{◌++◌, List, ap, codes}
use Rattle.serde_json.specs.Data.{string}
use Rattle.serde_json.specs.Written.{compact_text}
use Rattle.racer_base.specs.declared.ids.Place.{Place}
use Rattle.core_code.specs.Program.{core}
use Rattle.race_report_parts.specs.Pieces.{places_strings}
use Rattle.race_report_parts.proofs.PutChains.{four, same_piece}
use Rattle.race_report_parts.proofs.values.push_side_first.Goals as goal

pub returns : goal.returns
returns c =
    let program = core c.args.program.now in
    let at = codes "{\"at\":" in
    let kind = codes ",\"kind\":" in
    four (same_piece c.push_place_strings.ensures (ap (λ (all : List Place). at ++ places_strings program all)
    c.as_slice.ensures.value)) (same_piece c.push_string.ensures (ap (λ t. kind ++ compact_text (string t))
    c.touch_text.ensures)) c.push_flag.ensures c.push_flag-2.ensures
