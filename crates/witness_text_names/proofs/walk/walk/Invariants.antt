use denote.Shadow.{shadow}
use denote.Text.{Utf8}
use Rattle.std.proofs.Common.{◌≡◌, [], length}
use Rattle.core_code.specs.Program.{core}
use Rattle.witness_text_names.specs.Indexes.{ended, reached_of}
use Rattle.witness_text_names.specs.Names.{names_in}
use Rattle.witness_text_names.proofs.walk.walk.Given as goal

-- the names that are left lead on as all do
abbrev pub invariant-loop-name : goal.invariant-loop-name
invariant-loop-name l =
    shadow (Utf8 l.rest)
    × (ended (core l.program) l.ends (names_in l.rest) (l.path.items, reached_of l.reached) ≡
    ended (core l.program) l.ends (names_in l.text) ([], reached_of l.fn.from))

abbrev pub decreases-loop-name : goal.decreases-loop-name
decreases-loop-name l = length l.rest
