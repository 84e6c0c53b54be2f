use Rattle.std.proofs.Common.{length, map, string_bytes}
use Rattle.racer_run_edits.proofs.EditLines.{Makes}
use Rattle.racer_run_edits.proofs.edit_lines.edits_in.Given as goal

abbrev pub invariant-loop-line : goal.invariant-loop-line
invariant-loop-line l = Makes (map string_bytes l.sources.names.items) l.bytes l.edits.items l.rest

abbrev pub decreases-loop-line : goal.decreases-loop-line
decreases-loop-line l = length l.rest
