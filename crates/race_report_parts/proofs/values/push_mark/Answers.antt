use Rattle.std.proofs.Common.{◌++◌, ap, codes}
use Rattle.serde_json.specs.Data.{string}
use Rattle.serde_json.specs.Written.{compact_text}
use Rattle.race_report_parts.proofs.PutChains.{four, same_piece}
use Rattle.race_report_parts.proofs.values.push_mark.Goals as goal

pub returns : goal.returns
returns c =
    let name = codes "\"word\":" in
    four c.push_text.ensures c.push_detail.ensures (same_piece c.push_string.ensures (ap (λ t. name ++ compact_text
    (string t)) c.mark_word.ensures)) c.push_text-2.ensures
