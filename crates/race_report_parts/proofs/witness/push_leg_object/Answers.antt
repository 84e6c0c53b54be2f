use Rattle.std.proofs.Common.{◌++◌, ℕ, List, ap, codes}
use Rattle.std.specs.List.{flat_map}
use Rattle.serde_json.specs.Data.{string}
use Rattle.serde_json.specs.Written.{compact_text}
use Rattle.core_semantics.specs.declared.answer.Turn.{Turn}
use Rattle.core_ways.specs.Marks.{leg_of}
use Rattle.race_report_parts.specs.Marks.{turn_text}
use Rattle.race_report_parts.specs.Pieces.{leg_numbers}
use Rattle.race_report_parts.proofs.PutChains.{behind, four, same_piece}
use Rattle.race_report_parts.proofs.witness.push_leg_object.Goals as goal

pub returns : goal.returns
returns c =
    let leg = leg_of c.args.leg.now in
    let letters : List Turn → List ℕ = λ turns.
    codes ",\"turns\":" ++ compact_text (string (flat_map turn_text turns)) in
    same_piece (four c.push_text.ensures c.push_leg_numbers.ensures (same_piece c.push_letters_string.ensures (ap
    letters c.as_slice.ensures)) c.push_text-2.ensures) (behind c.args.before.now (leg_numbers leg) (letters leg.turns)
    (codes "}"))
