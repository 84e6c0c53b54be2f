-- A contract of a public call rests on this: code that sets no variable and does not return.
use Rattle.std.specs.Prelude.{Bool, true, false, ◌&&◌}
use Rattle.core_code.specs.declared.code.Op.{Op as CoreOp}
use Rattle.core_code.specs.declared.code.Op.TheVariants.{Set, Ret, Throw}
use Rattle.core_code.specs.Tree.{Tree, Op, Skip, Seq, Choice, Loop, Sync}

abbrev pub is_still_op : CoreOp → Bool
is_still_op (Set v) = false
is_still_op Ret = false
is_still_op Throw = false
is_still_op _ = true

abbrev pub is_still : Tree → Bool
is_still (Op site place op) = is_still_op op
is_still Skip = true
is_still (Seq first rest) = is_still first && is_still rest
is_still (Choice left right) = is_still left && is_still right
is_still (Loop body) = is_still body
is_still (Sync lock body) = is_still body
