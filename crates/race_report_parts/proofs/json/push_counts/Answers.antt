use Rattle.std.proofs.Common.{◌≡◌, length, sym, ap, ◌∙◌}
use Rattle.std.proofs.lemmas.List.{length-map}
use Rattle.std.specs.Fmt.{decimal}
use Rattle.core_code.specs.Core.{method_of}
use Rattle.core_code.specs.Program.{core}
use Rattle.race_report_parts.proofs.PutChains.{six, same_piece}
use Rattle.race_report_parts.proofs.json.push_counts.Goals as goal

pub returns : goal.returns
returns c =
    let program = core c.args.program.now in
    let count : length c.methods.result.now ≡ length program.methods =
    sym (length-map c.methods.result.now method_of) ∙ ap length c.methods.ensures in
    six c.push_text.ensures (same_piece c.push_count.ensures (ap (λ cs. decimal (length cs)) c.classes.ensures))
    c.push_text-2.ensures (same_piece c.push_count-2.ensures (ap (λ fs. decimal (length fs)) c.files.ensures))
    c.push_text-3.ensures (same_piece c.push_count-3.ensures (ap decimal count))
