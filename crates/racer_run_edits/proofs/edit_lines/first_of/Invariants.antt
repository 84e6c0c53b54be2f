use Rattle.std.proofs.Common.{◌≡◌, ℕ, ◌<◌, false, get_or}
use Rattle.racer_run_edits.specs.EditLines.{byte_is}
use Rattle.racer_run_edits.proofs.edit_lines.first_of.Given as goal

abbrev pub invariant-loop-place : goal.invariant-loop-place
invariant-loop-place l = (k : ℕ) → k < l.place → byte_is l.wanted (get_or l.text k 0) ≡ false
