use Rattle.std.proofs.Common.{◌≡◌, drop}
use Rattle.std.specs.List.{flat_map}
use Rattle.typed_core.specs.Contexts.{flag_of}
use Rattle.typed_core.specs.Typings.{place_failing}
use Rattle.typed_core.specs.Reaching.{first_of}
use Rattle.typed_core.proofs.typing.first_failing.Given as goal

abbrev pub invariant-loop-doubt : goal.invariant-loop-doubt
invariant-loop-doubt l =
    first_of (flat_map (place_failing (flag_of l.is_read)) (drop l.doubt-index l.doubts)) ≡
    first_of (flat_map (place_failing (flag_of l.is_read)) l.doubts)
