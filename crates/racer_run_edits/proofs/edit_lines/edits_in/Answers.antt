use Rattle.std.proofs.Common.{map, string_bytes, rules}
use Rattle.racer_run_edits.proofs.EditLines.{makes_them}
use Rattle.racer_run_edits.proofs.edit_lines.edits_in.Goals as goal

pub returns : goal.returns
returns c =
    makes_them (map string_bytes c.args.sources.now.names.items) c.args.bytes.now c.loop-line.edits.items
    c.loop-line.rest.now c.loop-line.invariant (search rules)
