use Rattle.std.proofs.Common.{◌++◌, ℕ, List, sym, ap, codes}
use Rattle.serde_json.specs.Data.{string}
use Rattle.serde_json.specs.Written.{compact_text}
use Rattle.access_paths.specs.declared.path.Path.{Path}
use Rattle.core_code.specs.Program.{core}
use Rattle.core_semantics.specs.declared.object.StartPath.{StartPath}
use Rattle.core_ways.specs.Marks.{leg_of}
use Rattle.race_report_parts.specs.Pieces.{starts_strings}
use Rattle.race_report_parts.specs.Sides.{sides_told}
use Rattle.race_report_parts.specs.Texts.{path_text}
use Rattle.race_report_parts.proofs.PutChains.{same_piece, six}
use Rattle.race_report_parts.proofs.WitnessPieces.{file_told}
use Rattle.race_report_parts.proofs.witness.push_witness_file.Goals as goal

pub returns : goal.returns
returns c =
    let program = core c.args.program.now in
    let starts : List StartPath → List ℕ = λ all. codes ",\"objects\":" ++ starts_strings program all in
    let path : Path → List ℕ = λ p. codes ",\"path\":" ++ compact_text (string (path_text program p)) in
    same_piece (six c.push_class_string.ensures c.push_entries.ensures c.push_legs.ensures
    (same_piece c.push_start_strings.ensures (ap starts c.as_slice.ensures))
    (same_piece c.push_path_string.ensures (ap path c.witness_path.ensures)) c.push_text.ensures)
    (sym (file_told program (sides_told c.args.sides.now) c.args.witness.now.objects (leg_of c.args.witness.now.first)
    (leg_of c.args.witness.now.second)))
