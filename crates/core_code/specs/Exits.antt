-- A contract of a public call rests on this: whether code can end, and whether it can return, as one value.
use Rattle.std.specs.Prelude.{true, ◌&&◌, ◌||◌, not}
use Rattle.core_code.specs.declared.code.Op.{Op as CoreOp}
use Rattle.core_code.specs.declared.exits.Exits.{Exits}
use Rattle.core_code.specs.Tree.{Tree, can_end, can_return, is_return, stops}

abbrev pub exits_of : Tree → Exits
exits_of code = record { ends = can_end code; returns = can_return code }

abbrev pub op_exits : CoreOp → Exits
op_exits op = record { ends = not (stops op); returns = is_return op }

-- of one part and then another
abbrev pub exits_then : Exits → Exits → Exits
exits_then first rest =
    record { ends = first.ends && rest.ends; returns = first.returns || (first.ends && rest.returns) }

-- of either of two parts
abbrev pub exits_either : Exits → Exits → Exits
exits_either left right = record { ends = left.ends || right.ends; returns = left.returns || right.returns }

-- of a loop round a body
abbrev pub exits_repeated : Exits → Exits
exits_repeated body = record { ends = true; returns = body.returns }
