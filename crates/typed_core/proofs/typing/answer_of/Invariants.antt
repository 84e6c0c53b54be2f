use Rattle.std.proofs.Common.{◌≡◌, drop}
use Rattle.typed_core.specs.Contexts.{flag_of}
use Rattle.typed_core.specs.Typings.{answer_of}
use Rattle.typed_core.specs.Reaching.{reached_places}
use Rattle.typed_core.proofs.typing.answer_of.Given as goal

abbrev pub invariant-loop-number : goal.invariant-loop-number
invariant-loop-number l =
    answer_of (reached_places (flag_of l.is_read) (drop l.number l.reached) (drop l.number l.all)) ≡
    answer_of (reached_places (flag_of l.is_read) l.reached l.all)
